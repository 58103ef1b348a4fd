-- Numbers that are read digit by digit, up to one that is too large. Assumes nothing.
use mathlib.Core.Bool.{Bool, true, false, cond, ◌&&◌}
use mathlib.Core.List.{List, [], ◌∷◌}
use mathlib.Core.Path.{◌≡◌, refl, sym}
use Prim.Native.Nat.{ℕ, ◌+◌, ◌-◌, ◌*◌, ◌≤◌, ◌<◌}
use native.Mathlib.Numerals.{add-one}
use native.Mathlib.Omega.{arith}
use borrow.Author.Tests.{ltb-true, ltb-false, lt-ltb, le-ltb}
use lib.Dec.{ltb}
use lib.ListN.{length, get_or, drop}
use lib.Seq.{drop-cons}
use Rattle.std.specs.Prelude.{Option, Some, None}
use Rattle.std.specs.Option.{option_and_then}
use Rattle.arith.proofs.Choose.{by_test}
use Rattle.text.specs.Decimals.{is_digit, are_digits, spelled_from, is_numeral}
use Rattle.text.specs.Coordinates.{too_large, with_digit, numeral_of}

-- digits behind a number
abbrev pub capped : ℕ → List ℕ → Option ℕ
capped v [] = Some v
capped v (b ∷ bs) = option_and_then (λ w. capped w bs) (with_digit v b)

-- a digit more makes no number smaller
no_smaller : (v : ℕ) (bs : List ℕ) → v ≤ spelled_from v bs
no_smaller v [] = omega arith
no_smaller v (b ∷ bs) = omega (arith, no_smaller (10 * v + (b - 48)) bs)

never : (p : Bool) (x : ℕ) → None ≡ cond (p && false) (Some x) None
never true x = refl
never false x = refl

pub digit_read : (v b : ℕ) → is_digit b ≡ true → 10 * v + (b - 48) < too_large → with_digit v b ≡ Some (10 * v + (b - 48))
unfolding with_digit
digit_read v b d h = rw (d, lt-ltb (10 * v + (b - 48)) too_large h)

pub no_digit : (v b : ℕ) → is_digit b ≡ false → with_digit v b ≡ None
unfolding with_digit
no_digit v b d = rw d

pub past_limit : (v b : ℕ) → too_large ≤ 10 * v + (b - 48) → with_digit v b ≡ None
unfolding with_digit
past_limit v b h = rw (le-ltb (10 * v + (b - 48)) too_large h) (sym (never (is_digit b) _))

-- a number that is spelled behind v
pub capped_is : (v : ℕ) (bs : List ℕ) → v < too_large → capped v bs ≡ cond (are_digits bs && ltb (spelled_from v bs) too_large) (Some (spelled_from v bs)) None
unfolding with_digit
capped_is v [] h = rw (lt-ltb v too_large h)
capped_is v (b ∷ bs) h =
    let next = 10 * v + (b - 48) in
    by_test (is_digit b)
    (λ d.
    rw d
    (by_test (ltb next too_large)
    (λ t. rw t (capped_is next bs (ltb-true next too_large t)))
    (λ f. rw (f, le-ltb (spelled_from next bs) too_large (omega (arith, no_smaller next bs, ltb-false next too_large f))) (never (are_digits bs) _))))
    (λ f. rw f)

-- behind a number, a digit of a text is read before those after it
pub digit_turn : (v k : ℕ) (text : List ℕ) {next : Option ℕ} → k < length text → next ≡ with_digit v (get_or text k 0) →
    capped v (drop k text) ≡ option_and_then (λ w. capped w (drop (k + 1) text)) next
digit_turn v k text h e = rw (e, drop-cons text k 0 h, add-one k)

-- so what a text spells is read from its first digit on, where there is one
pub none_spelled : (bs : List ℕ) → length bs ≡ 0 → numeral_of bs ≡ None
unfolding numeral_of is_numeral
none_spelled [] h = refl
none_spelled (b ∷ bs) h = absurd (omega arith)

pub spelled_in_turn : (bs : List ℕ) → 0 < length bs → numeral_of bs ≡ capped 0 bs
unfolding numeral_of is_numeral
spelled_in_turn bs h = rw (lt-ltb 0 (length bs) h, capped_is 0 bs (omega arith))
