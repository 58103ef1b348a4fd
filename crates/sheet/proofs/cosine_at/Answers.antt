-- `sheet::cosine_at` meets its contract. Assumes nothing.
use mathlib.Core.Path.{◌≡◌}
use mir.Syntax.{w64}
use mir.Facts.{to_z-of_z}
use Rattle.arith.proofs.Fits.{back}
use Rattle.trig.specs.Trig.{angle_of}
use Rattle.sheet.proofs.Angles.{parallel_angle_size}
use Rattle.sheet.proofs.cosine_at.Goals as goal
use Rattle.sheet.proofs.cosine_at.Goals.{After-angle_unchecked-t}

angled : (c : After-angle_unchecked-t) → c.angle_unchecked-t.result ≡ angle_of c.args.f
angled c = rw (to_z-of_z c.ranges.f) at c.angle_unchecked-t.ensures

pub invariant_of-cosine : goal.invariant_of-cosine
invariant_of-cosine c =
    let t = c.angle_unchecked-t in
    rw (back w64 t.result t.type_inv, angled (goal.at.invariant_of-cosine c).After-angle_unchecked-t) (record { in_range = parallel_angle_size c.args.f c.requires })
