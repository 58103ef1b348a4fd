-- What std prints of a number is its decimal text, and how long that is. Assumes nothing.
use mathlib.Core.List.{List, ◌∷◌}
use mathlib.Core.Path.{◌≡◌, ap, sym}
use Prim.Native.Nat.{ℕ, suc, ◌<◌, ◌^◌}
use native.Mathlib.Omega.{arith}
use lib.IntN.{ℤ, pos, negsuc}
use mir.Facts.{to_z-of_z}
use mir.Syntax.{w32, w64}
use mir.Val.{Fits, SFits, to_z, of_z}
use Rattle.std.specs.Fmt as std
use Rattle.std.proofs.Math.Facts.{sfits_widen}
use Rattle.std.proofs.lemmas.Fmt.{AppendsLastDigit, decimal_from_appends, length-decimal-le_succ}
use Rattle.refusal.specs.declared.Refusal.{Refusal}
use Rattle.refusal.specs.Numbers.{number_of}
use Rattle.refusal.proofs.Distinct.{number-most}
use Rattle.text.specs.Decimals.{minus, digits_up_to, decimal, signed}
use Rattle.text.proofs.Digits.{first_digit, digit_more}

appends : AppendsLastDigit digits_up_to
appends = record { one = first_digit; more = digit_more }

pub decimal_printed : (n : ℕ) → n < 2 ^ 64 → std.decimal n ≡ decimal n
unfolding decimal
decimal_printed n h = sym (decimal_from_appends digits_up_to appends (suc n) n h (omega (arith, length-decimal-le_succ n h)))

-- numbers of the code's types
pub printed_32 : {n : ℕ} → Fits w32 n → std.decimal n ≡ decimal n
printed_32 {n} f = decimal_printed n (let h = f.fits in omega arith)

pub printed_64 : {n : ℕ} → Fits w64 n → std.decimal n ≡ decimal n
printed_64 {n} f = decimal_printed n (let h = f.fits in omega arith)

-- the same, where the number is worked out
pub printed_as : {text : List ℕ} {m n : ℕ} → text ≡ std.decimal m → m ≡ n → Fits w64 n → text ≡ decimal n
printed_as {m} t e f = rw t (rw e (printed_64 f))

pub number_printed : (r : Refusal) → std.decimal (number_of r) ≡ decimal (number_of r)
number_printed r = decimal_printed (number_of r) (omega (arith, number-most r))

signed_small : (z : ℤ) → SFits w64 z → std.signed_decimal z ≡ signed z
unfolding signed
signed_small (pos n) f = let h = f.sfits in decimal_printed n (omega arith)
signed_small (negsuc n) f = let h = f.sfits in ap (λ (ds : List ℕ). minus ∷ ds) (decimal_printed (suc n) (omega arith))

pub signed_printed_64 : {z : ℤ} → SFits w64 z → std.signed_decimal (to_z w64 (of_z w64 z)) ≡ signed z
signed_printed_64 {z} f = rw (to_z-of_z f) (signed_small z f)

pub signed_printed_32 : {z : ℤ} → SFits w32 z → std.signed_decimal (to_z w32 (of_z w32 z)) ≡ signed z
signed_printed_32 {z} f = rw (to_z-of_z f) (signed_small z (sfits_widen tt f))
