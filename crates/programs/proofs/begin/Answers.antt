-- `programs::begin` meets its contract. Assumes nothing.
use mathlib.Core.Path.{refl}
use Rattle.programs.specs.Tapping.{nothing_begun}
use Rattle.programs.proofs.begin.Goals as goal

pub returns : goal.returns
unfolding nothing_begun
returns c = refl
