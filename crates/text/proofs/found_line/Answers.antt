-- `text::found_line` meets its contract. Assumes nothing.
use mir.Facts.{to_z-of_z}
use Rattle.text.specs.Lines.{found_line}
use Rattle.text.proofs.Printed.{printed_32}
use Rattle.text.proofs.found_line.Goals as goal

pub returns : goal.returns
unfolding found_line
returns c =
    let f = c.ranges in
    rw (← (printed_32 f.id), ← c.format.ensures.text) (rw (to_z-of_z f.latitude, to_z-of_z f.longitude) at c.position_line.ensures)
