-- `text::nothing_found_line` meets its contract. Assumes nothing.
use mir.Facts.{to_z-of_z}
use Rattle.text.specs.Lines.{nothing_found_line}
use Rattle.text.proofs.nothing_found_line.Goals as goal

pub returns : goal.returns
unfolding nothing_found_line
returns c = let f = c.ranges in rw (to_z-of_z f.latitude, to_z-of_z f.longitude) at c.position_line.ensures
