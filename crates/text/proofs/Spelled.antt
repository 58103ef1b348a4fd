-- A number that is written is read as itself. Assumes nothing.
use mathlib.Core.Bool.{true}
use mathlib.Core.List.{List, [], ◌∷◌, ◌++◌}
use mathlib.Core.Path.{◌≡◌, refl}
use mathlib.Mathlib.Data.Bool.Basic.{and_elim_left, and_elim_right, and_intro}
use Prim.Native.Nat.{ℕ, suc, ◌+◌, ◌-◌, ◌*◌, ◌≤◌, ◌<◌, ◌%◌}
use native.Mathlib.Omega.{arith}
use borrow.Author.Tests.{leb-true, le-leb, lt-ltb, ne_eqb}
use lib.Dec.{leb}
use lib.IntN.{pos, negsuc}
use lib.ListN.{length, length-append}
use Rattle.text.specs.Decimals.{minus, digit, decimal, signed, is_digit, are_digits, spelled_from, is_numeral, is_number, spelled}
use Rattle.text.specs.Laws.{ReadsBack}
use Rattle.text.proofs.Digits.{by_digits}

-- digits that spell a number
pub record Spell (n : ℕ) (ds : List ℕ) : Type 0 where
  pub some : 0 < length ds
  pub digits : are_digits ds ≡ true
  pub value : spelled_from 0 ds ≡ n

is_digit_lem : (d : ℕ) → d < 10 → is_digit (digit d) ≡ true
is_digit_lem d h = rw (le-leb 48 (digit d) (omega arith), le-leb (digit d) 57 (omega arith))

digits-behind : (ds : List ℕ) (b : ℕ) → are_digits ds ≡ true → is_digit b ≡ true → are_digits (ds ++ (b ∷ [])) ≡ true
digits-behind [] b e d = rw d
digits-behind (x ∷ ds) b e d = and_intro (and_elim_left (is_digit x) (are_digits ds) e) (digits-behind ds b (and_elim_right (is_digit x) (are_digits ds) e) d)

spelled-behind : (v : ℕ) (ds : List ℕ) (b : ℕ) → spelled_from v (ds ++ (b ∷ [])) ≡ 10 * spelled_from v ds + (b - 48)
spelled-behind v [] b = refl
spelled-behind v (x ∷ ds) b = spelled-behind (10 * v + (x - 48)) ds b

pub spell : (n : ℕ) → Spell n (decimal n)
spell =
    by_digits Spell
    (λ n h. record { some = omega arith; digits = rw (is_digit_lem n h); value = omega arith })
    (λ n ds h rest. record {
      some = rw length-append (omega arith);
      digits = digits-behind ds (digit (n % 10)) rest.digits (is_digit_lem (n % 10) (omega arith));
      value = rw (spelled-behind, rest.value) (omega arith);
    })

is_numeral_lem : {n : ℕ} {ds : List ℕ} → Spell n ds → is_numeral ds ≡ true
unfolding is_numeral
is_numeral_lem {ds} s = rw (lt-ltb 0 (length ds) s.some, s.digits)

-- the first of digits is at least `0`
pub at_least : (b : ℕ) (bs : List ℕ) → are_digits (b ∷ bs) ≡ true → 48 ≤ b
at_least b bs e = leb-true 48 b (and_elim_left (leb 48 b) (leb b 57) (and_elim_left (is_digit b) (are_digits bs) e))

-- so it is no minus
read_digits : {n : ℕ} (ds : List ℕ) → Spell n ds → (is_number ds ≡ true) × (spelled ds ≡ pos n)
unfolding is_number spelled
read_digits [] s = absurd (omega (arith, s.some))
read_digits (b ∷ bs) s =
    let m = ne_eqb b minus (λ q. omega (arith, at_least b bs s.digits)) in
    (rw m (is_numeral_lem s), rw (m, s.value))

pub reads_back : ReadsBack
unfolding signed is_number spelled
reads_back (pos n) = read_digits (decimal n) (spell n)
reads_back (negsuc n) = let s = spell (suc n) in (is_numeral_lem s, rw s.value)
