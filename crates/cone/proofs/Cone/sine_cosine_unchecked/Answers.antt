-- `cone::Cone::sine_cosine_unchecked` meets its contract. Assumes nothing.
use mathlib.Core.Path.{◌≡◌, ◌∙◌}
use lib.IntN.{pos}
use mir.Syntax.{w64}
use mir.Val.{to_z, of_z}
use mir.Facts.{to_z-of_z}
use Rattle.arith.proofs.Parts.{linear}
use Rattle.arith.proofs.Fits.{back}
use Rattle.cone.specs.Cone.{cone_angle_of}
use Rattle.cone.proofs.Sizes.{cone_angle_range}
use Rattle.cone.proofs.Cone.sine_cosine_unchecked.Goals as goal
use Rattle.cone.proofs.Cone.sine_cosine_unchecked.Goals.{After-cone_angle_unchecked}

t-is : (c : After-cone_angle_unchecked) → to_z w64 (of_z w64 c.cone_angle_unchecked.result) ≡ cone_angle_of (pos c.args.self.constant) c.args.d
t-is c = back w64 c.cone_angle_unchecked.result c.cone_angle_unchecked.type_inv ∙ rw (to_z-of_z c.ranges.d) at c.cone_angle_unchecked.ensures

pub invariant_of-sine_cosine : goal.invariant_of-sine_cosine
invariant_of-sine_cosine c =
    let h = c.args.self.n_bound in
    rw (t-is (goal.at.invariant_of-sine_cosine c).After-cone_angle_unchecked) (record { in_range = cone_angle_range (pos c.args.self.constant) c.args.d (omega linear) c.requires })
