-- `text::coordinate_of_size` meets its contract. Assumes nothing.
use Prim.Native.Nat.{ℕ, ◌<◌}
use native.Mathlib.Nat.{le_of_lt}
use native.Mathlib.Omega.{arith}
use borrow.Author.Tests.{lt-ltb, le-ltb}
use lib.IntN.{pos, neg_ℤ, ◌-ℤ◌, +ℤ_idl}
use mir.Syntax.{w64}
use mir.Val.{to_z}
use Rattle.arith.proofs.Fits.{Range, plain, lit, nat_bits, r_bits, r_sub}
use Rattle.text.specs.Coordinates.{too_large, sized_coordinate}
use Rattle.text.proofs.coordinate_of_size.Goals as goal

-- a size that is not too large, and its negation
module _ {size : ℕ} (h : size < too_large) where
  abbrev negated : Range (pos 0 -ℤ to_z w64 size)
  negated = r_sub (lit (pos 0)) (nat_bits w64 {m = too_large} (le_of_lt h))

pub returns-then-size-ge-TOO_LARGE : goal.returns-then-size-ge-TOO_LARGE
unfolding sized_coordinate
returns-then-size-ge-TOO_LARGE c = rw (le-ltb c.args.size too_large (omega arith))

pub returns-then-negative : goal.returns-then-negative
unfolding sized_coordinate
returns-then-negative c =
    let size = c.args.size in
    let h : size < too_large = omega arith in
    rw (lt-ltb size too_large h, c.if-negative.true, plain (r_bits w64 (negated h)) tt, +ℤ_idl (neg_ℤ (pos size)))

pub returns-else-negative : goal.returns-else-negative
unfolding sized_coordinate
returns-else-negative c =
    let size = c.args.size in
    let h : size < too_large = omega arith in
    rw (lt-ltb size too_large h, c.if-negative.false, plain (nat_bits w64 {m = too_large} (le_of_lt h)) tt)
