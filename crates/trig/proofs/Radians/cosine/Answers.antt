-- `trig::Radians::cosine` meets its contract. Assumes nothing.
use mathlib.Core.Path.{◌≡◌, ◌∙◌}
use mir.Syntax.{w64}
use mir.Val.{to_z, of_z}
use Rattle.arith.proofs.Fits.{back}
use Rattle.trig.specs.Trig.{square_of, cosine_of}
use Rattle.trig.proofs.Sizes.{square_size}
use Rattle.trig.proofs.Radians.cosine.Goals as goal
use Rattle.trig.proofs.Radians.cosine.Goals.{After-square}

squared : (c : After-square) → to_z w64 (of_z w64 c.square.result) ≡ square_of c.before.args.self.t
squared c = back w64 c.square.result c.square.type_inv ∙ c.square.ensures

pub cosine_by_square-requires : goal.cosine_by_square-requires
cosine_by_square-requires c = rw (squared c) (square_size c.before.args.self.t c.before.args.self.in_range)

pub returns : goal.returns
unfolding cosine_of
returns c = rw (back w64 c.cosine_by_square.result c.cosine_by_square.type_inv, c.cosine_by_square.ensures, squared c.before)
