-- `nearest::square-unchecked` meets its contract. Assumes nothing.
use mathlib.Core.Path.{ap}
use lib.IntN.{nat_abs, ◌*ℤ◌}
use mir.Syntax.{w64}
use mir.Val.{to_z, of_z}
use Rattle.arith.proofs.Range.{r_sq}
use Rattle.arith.proofs.Fits.{Range, plain, bounded, r_bits}
use Rattle.nearest.specs.Taps.{squared}
use Rattle.nearest.proofs.square_unchecked.Goals as goal
use Rattle.nearest.proofs.square_unchecked.Goals.{Start}

abbrev product : (c : Start) → Range (to_z w64 (of_z w64 c.args.a) *ℤ to_z w64 (of_z w64 c.args.a))
product c = r_sq (bounded w64 c.requires)

pub returns : goal.returns
unfolding squared
returns c = ap nat_abs (plain (r_bits w64 (product (goal.at.returns c).Start)) tt)
