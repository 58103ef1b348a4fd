-- The sheet's angle against theta: within 2.03 ONEths, on both sides of the central meridian.
-- Two fractions are dropped, up to 1 each; and the angle's factor lacks the fraction that document 01 drops, 0.4365, which makes 0.0244 at 60 degrees. Assumes nothing.
use mathlib.Core.List.{[], ◌∷◌}
use Prim.Native.Nat.{◌*◌, ◌%◌, ◌^◌}
use lib.Dec.{lit<}
use lib.IntN.{ℤ, pos, ◌*ℤ◌}
use lib.Signed.{quot_z, le_z_yes, lt_z_yes}
use Rattle.arith.specs.Bounds.{Size}
use Rattle.arith.proofs.Quote.{ring!, quote}
use Rattle.arith.proofs.Cert.{num}
use Rattle.arith.proofs.Size.{size_cancel, size-+, size_neg, size-*, size_scale, size_quot, size_wider, size_is}
use Rattle.arith.proofs.Fits.{ranges, inside_of}
use Rattle.trig.specs.Trig.{ONE, angle_factor, angle_of}
use Rattle.trig.proofs.NearAngle.{NearAngle, near_angle_by}
use Rattle.cone.specs.Cone.{cone_angle_of}
use Rattle.accuracy.specs.Exact.{theta_of}

pub near_theta : (n d : ℤ) → Size ONE n → Size (pos 60000000) d → NearAngle (cone_angle_of n d) (theta_of n d).num (pos (theta_of n d).den) (pos 2030) (pos 5263)
unfolding cone_angle_of angle_of
near_theta n d n_size d_size =
    let g = quot_z (d *ℤ pos angle_factor) ONE in
    let angle-part = size_scale (num (180000000 * 10 ^ 21)) (size-* n_size (size_quot (2 ^ 30) (lit< tt) (d *ℤ pos angle_factor))) in
    let left-part = size_scale (num (180000000 * 10 ^ 21 * 2 ^ 30)) (size_quot (2 ^ 30) (lit< tt) (n *ℤ g)) in
    let factor-part = size_scale (num (1000 * (2 ^ 60 * 3141592653589793238 % (180000000 * 10 ^ 18)))) (size-* n_size d_size) in
    near_angle_by (lt_z_yes tt) (inside_of (search ranges depth 9) tt) (inside_of (search ranges depth 9) tt)
    (size_cancel ONE (lt_z_yes tt)
    (size_is (size_wider (le_z_yes tt) (size_neg (size-+ (size-+ angle-part left-part) factor-part))) (ring! (n ∷ d ∷ g ∷ quot_z (n *ℤ g) ONE ∷ []) (search quote depth 40) tt)))
    (le_z_yes tt)
