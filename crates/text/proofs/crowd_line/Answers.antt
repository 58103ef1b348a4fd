-- `text::crowd_line` meets its contract. Assumes nothing.
use Rattle.text.specs.Lines.{crowd_line}
use Rattle.text.proofs.Printed.{printed_32, printed_64}
use Rattle.text.proofs.crowd_line.Goals as goal

pub returns : goal.returns
unfolding crowd_line
returns c = rw (← (printed_32 c.ranges.id), ← (printed_64 c.ranges.others), ← c.format.ensures.text, ← c.format-2.ensures.text) c.row.ensures
