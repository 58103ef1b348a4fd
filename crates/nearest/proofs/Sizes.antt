-- Sizes: of a tap in range, of a square, and of the difference of a place's coordinate and a tap's as the code has it. Assumes nothing.
use mathlib.Core.Bool.{true}
use mathlib.Core.Path.{◌≡◌}
use Prim.Native.Nat.{◌*◌, ◌≤◌}
use native.Mathlib.Nat.{mul-le-mul}
use lib.IntN.{ℤ, pos, ◌-ℤ◌}
use mir.Syntax.{w32, w64}
use mir.Val.{SFits, to_z, of_z}
use Rattle.arith.specs.Bounds.{Size}
use Rattle.arith.proofs.Order.{abs-*, size_abs}
use Rattle.arith.proofs.Parts.{linear}
use Rattle.arith.proofs.Tests.{said, facts}
use Rattle.arith.proofs.Fits.{Range, plain, inside_of, param, bounded, r_bits, r_sub}
use Rattle.nearest.specs.Taps.{tap_limit, tap_in_range, squared, difference_limit}

-- a tap in range is what the loop and the square of the reach ask for
pub tap_sizes : (x y reach : ℤ) → tap_in_range x y reach ≡ true → Size (pos tap_limit) x × Size (pos tap_limit) y × Size (pos difference_limit) reach
tap_sizes x y reach e = let f = facts e (search said depth 9) in omega linear

pub square_most : (a : ℤ) → Size (pos difference_limit) a → squared a ≤ difference_limit * difference_limit
unfolding squared
square_most a h = let m = size_abs {z = a} h in rw (abs-* a a) (mul-le-mul m m)

module _ {a b : ℤ} (f : SFits w32 a) (h : Size (pos tap_limit) b) where
  abbrev pub difference : Range (to_z w64 (of_z w64 (to_z w32 (of_z w32 a))) -ℤ to_z w64 (of_z w64 b))
  difference = r_sub (r_bits w64 (param f)) (bounded w64 h)

  pub difference_is : to_z w64 (of_z w64 (to_z w64 (of_z w64 (to_z w32 (of_z w32 a))) -ℤ to_z w64 (of_z w64 b))) ≡ a -ℤ b
  difference_is = plain (r_bits w64 difference) tt

  pub difference_most : Size (pos difference_limit) (a -ℤ b)
  difference_most = rw (← difference_is) (inside_of (r_bits w64 difference) tt)
