-- `place::blank` meets its contract. Assumes nothing.
use mathlib.Core.Path.{refl}
use Rattle.place.specs.Places.{blank_place}
use Rattle.place.proofs.blank.Goals as goal

pub returns : goal.returns
unfolding blank_place
returns c = refl
