-- `cone::ConePoint::radius` meets its contract. Assumes nothing.
use mathlib.Core.Path.{◌∙◌}
use lib.IntN.{ℤ, ◌+ℤ◌, ◌*ℤ◌}
use mir.Syntax.{w64}
use mir.Val.{to_z, of_z}
use Rattle.arith.specs.Bounds.{Within}
use Rattle.arith.proofs.Fits.{Range, plain, back, r_bits, r_add, r_mul, bounded}
use Rattle.cone.specs.Cone.{radius_at}
use Rattle.cone.proofs.Sizes.{q_range}
use Rattle.cone.proofs.ConePoint.radius.Goals as goal
use Rattle.cone.proofs.ConePoint.radius.Goals.{Start}

abbrev square : {l h a : ℤ} → Within l h a → Range (to_z w64 (of_z w64 a) *ℤ to_z w64 (of_z w64 a))
square k = r_mul (bounded w64 k) (bounded w64 k)

abbrev sum : (c : Start) → Range (to_z w64 (of_z w64 (to_z w64 (of_z w64 c.args.self.x) *ℤ to_z w64 (of_z w64 c.args.self.x))) +ℤ to_z w64 (of_z w64 (to_z w64 (of_z w64 c.args.self.v) *ℤ to_z w64 (of_z w64 c.args.self.v))))
sum c = r_add (r_bits w64 (square c.args.self.x_range)) (r_bits w64 (square c.args.self.v_range))

pub root_unchecked-requires : goal.root_unchecked-requires
root_unchecked-requires c = rw (plain (r_bits w64 (sum (goal.at.root_unchecked-requires c).Start)) tt) (q_range c.args.self.x c.args.self.v c.args.self.x_range c.args.self.v_range)

pub returns : goal.returns
unfolding radius_at
returns c = back w64 c.root_unchecked.result c.root_unchecked.type_inv ∙ rw (plain (r_bits w64 (sum (goal.at.returns c).Start)) tt) at c.root_unchecked.ensures
