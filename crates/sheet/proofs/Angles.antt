-- The sizes of a parallel's angle and of a radius' angle on the cone, and the ranges of what the code computes of them. Assumes nothing.
use mathlib.Core.Path.{◌≡◌}
use Prim.Native.Nat.{ℕ, ◌≤◌}
use lib.IntN.{ℤ, pos}
use lib.Signed.{le_z_yes}
use Rattle.arith.specs.Bounds.{Size}
use Rattle.arith.proofs.Parts.{linear}
use Rattle.arith.proofs.Size.{size_wider}
use Rattle.arith.proofs.Fits.{Range, within, via}
use Rattle.trig.specs.Trig.{ONE, angle_of, sine_of, cosine_of, sine_limit}
use Rattle.trig.proofs.Sizes.{angle_size, sine-within, cosine-size}
use Rattle.cone.specs.Cone.{cone_angle_of}
use Rattle.cone.proofs.ConeAngles.{cone_angle_size}

pub parallel_angle_size : (f : ℤ) → Size (pos 80000000) f → Size (pos sine_limit) (angle_of f)
unfolding angle_of
parallel_angle_size f h = size_wider (le_z_yes tt) (angle_size (pos 80000000) f h)

-- a radius is up to 2^28 units
pub radius_cone_angle_size : (n : ℕ) (a : ℤ) → n ≤ 1073741824 → Size (pos 268435456) a → Size (pos 5030569068) (cone_angle_of (pos n) a)
unfolding angle_of
radius_cone_angle_size n a k h = let n_size : Size ONE (pos n) = omega linear in cone_angle_size (pos n) (pos 268435456) a n_size h

-- ---- ranges

abbrev pub sine-range : {r f : ℤ} → r ≡ sine_of (angle_of f) → Size (pos 80000000) f → Range r
sine-range {f = f} e h = via e (within (sine-within (angle_of f) (parallel_angle_size f h)))

abbrev pub cosine-range : {r f : ℤ} → r ≡ cosine_of (angle_of f) → Size (pos 80000000) f → Range r
cosine-range {f = f} e h = via e (within (cosine-size (angle_of f) (parallel_angle_size f h)))

abbrev pub cone_range : {r a : ℤ} {n : ℕ} → r ≡ cone_angle_of (pos n) a → n ≤ 1073741824 → Size (pos 268435456) a → Range r
cone_range {a = a} {n} e k h = via e (within (radius_cone_angle_size n a k h))
