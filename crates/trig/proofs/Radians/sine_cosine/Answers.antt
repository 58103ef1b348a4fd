-- `trig::Radians::sine_cosine` meets its contract. Assumes nothing.
use mathlib.Core.Path.{◌≡◌, ◌∙◌}
use mir.Syntax.{w64}
use mir.Val.{to_z, of_z}
use Rattle.arith.proofs.Fits.{back}
use Rattle.trig.specs.Trig.{square_of, cosine_of}
use Rattle.trig.proofs.Sizes.{square_size}
use Rattle.trig.proofs.Radians.sine_cosine.Goals as goal
use Rattle.trig.proofs.Radians.sine_cosine.Goals.{After-square-z}

squared : (c : After-square-z) → to_z w64 (of_z w64 c.square-z.result) ≡ square_of c.before.args.self.t
squared c = back w64 c.square-z.result c.square-z.type_inv ∙ c.square-z.ensures

pub cosine_by_square-requires : goal.cosine_by_square-requires
cosine_by_square-requires c = let s = c.before.before in rw (squared c.before) (square_size s.args.self.t s.args.self.in_range)

pub returns-clause-cosine_value : goal.returns-clause-cosine_value
unfolding cosine_of
returns-clause-cosine_value c = rw (back w64 c.cosine_by_square.result c.cosine_by_square.type_inv, c.cosine_by_square.ensures, squared c.before.before)
