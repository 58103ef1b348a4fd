-- The digits of a number. Assumes nothing.
use mathlib.Core.Bool.{cond}
use mathlib.Core.List.{List, [], ◌∷◌, ◌++◌}
use mathlib.Core.Path.{◌≡◌}
use Prim.Native.Nat.{ℕ, zero, suc, ◌+◌, ◌*◌, ◌≤◌, ◌<◌, ◌/◌, ◌%◌, ◌^◌}
use native.Mathlib.Omega.{arith}
use native.Mathlib.Numerals.{unary_clauses}
use borrow.Author.Tests.{ltb-true, ltb-false, lt-ltb, le-ltb}
use lib.Dec.{ltb}
use lib.ListN.{length, length-append}
use Rattle.arith.proofs.Choose.{by_test, as_choice}
use Rattle.text.specs.Decimals.{digit, digits_up_to, decimal}
use Rattle.text.specs.Laws.{OneDigit, MoreDigits, DigitsAtMost}

turn : (k n : ℕ) → digits_up_to (suc k) n ≡ cond (ltb n 10) (digit n ∷ []) (digits_up_to k (n / 10) ++ (digit (n % 10) ∷ []))
unfolding digits_up_to
turn k n = as_choice (ltb n 10) _ _

pub first_digit : (k n : ℕ) → n < 10 → digits_up_to (suc k) n ≡ digit n ∷ []
first_digit k n h = rw (turn k n, lt-ltb n 10 h)

pub digit_more : (k n : ℕ) → 10 ≤ n → digits_up_to (suc k) n ≡ digits_up_to k (n / 10) ++ (digit (n % 10) ∷ [])
digit_more k n h = rw (turn k n, le-ltb n 10 h)

-- a bound above the number is enough, and a larger one gives no more
same_bounds : (j k n : ℕ) → n < j → n < k → digits_up_to j n ≡ digits_up_to k n
same_bounds zero k n a b = absurd (omega arith)
same_bounds (suc j) zero n a b = absurd (omega arith)
same_bounds (suc j) (suc k) n a b =
    rw (turn j n, turn k n)
    (by_test (ltb n 10)
    (λ t. rw t)
    (λ f. let h = ltb-false n 10 f in rw (f, same_bounds j k (n / 10) (omega arith) (omega arith))))

pub one_digit : OneDigit
unfolding decimal
one_digit n = first_digit n n

pub more_digits : MoreDigits
unfolding decimal
more_digits n h = rw (digit_more n n h, same_bounds n (suc (n / 10)) (n / 10) (omega arith) (omega arith))

-- what holds of one digit, and of a number that has a digit more, holds of every number
pub by_digits : (P : ℕ → List ℕ → Type 0) → ((n : ℕ) → n < 10 → P n (digit n ∷ [])) → ((n : ℕ) (ds : List ℕ) → 10 ≤ n → P (n / 10) ds → P n (ds ++ (digit (n % 10) ∷ []))) → (n : ℕ) → P n (decimal n)
by_digits P one more n = below (suc n) n (omega arith)
  where
    below : (k n : ℕ) → n < k → P n (decimal n)
    below zero n h = absurd (omega arith)
    below (suc k) n h =
        by_test (ltb n 10)
        (λ t. let a = ltb-true n 10 t in rw (one_digit n a) (one n a))
        (λ f. let a = ltb-false n 10 f in rw (more_digits n a) (more n (decimal (n / 10)) a (below k (n / 10) (omega arith))))

pub digits-at_most : DigitsAtMost
digits-at_most k n h = by_digits AtMost (λ n a k h. omega arith) more n k h
  where
    AtMost : ℕ → List ℕ → Type 0
    AtMost n ds = (k : ℕ) → n < 10 ^ (1 + k) → length ds ≤ 1 + k

    more : (n : ℕ) (ds : List ℕ) → 10 ≤ n → AtMost (n / 10) ds → AtMost n (ds ++ (digit (n % 10) ∷ []))
    more n ds a rest zero h = absurd (omega arith)
    more n ds a rest (suc k) h =
        let p : 10 ^ (1 + suc k) ≡ 10 ^ (1 + k) * 10 = simp unary_clauses in
        let q = rw p at h in
        rw length-append (omega (arith, rest k (omega arith)))
