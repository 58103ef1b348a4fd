-- `cone::cone_angle_unchecked` meets its contract. Assumes nothing.
use mathlib.Core.Path.{◌≡◌}
use mir.Syntax.{w64}
use mir.Val.{to_z}
use mir.Facts.{to_z-of_z}
use Rattle.arith.proofs.Fits.{Range, shapes, fits, plain, within, via, nat_bits}
use Rattle.trig.specs.Trig.{angle_of}
use Rattle.cone.specs.Cone.{cone_angle_of}
use Rattle.cone.proofs.Sizes.{radius_angle_size}
use Rattle.cone.proofs.cone_angle_unchecked.Goals as goal
use Rattle.cone.proofs.cone_angle_unchecked.Goals.{After-angle_unchecked}

angled : (c : After-angle_unchecked) → c.angle_unchecked.result ≡ angle_of c.before.args.a
angled c = rw (to_z-of_z c.before.ranges.a) at c.angle_unchecked.ensures

-- n and the angle

abbrev factors : (c : After-angle_unchecked) → Range (to_z w64 c.before.args.n) × Range c.angle_unchecked.result
factors c = let s = c.before in (nat_bits w64 s.requires.n_bound, via (angled c) (within (radius_angle_size s.args.a s.requires.size)))

pub overflow_mul-result : goal.overflow_mul-result
overflow_mul-result c = let f = factors c in fits (search shapes depth 9) tt

pub returns : goal.returns
unfolding cone_angle_of
returns c = let f = factors c in plain (search shapes depth 9) tt
