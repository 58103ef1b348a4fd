-- `text::position_line` meets its contract. Assumes nothing.
use Rattle.text.proofs.Printed.{signed_printed_64}
use Rattle.text.proofs.position_line.Goals as goal

pub returns : goal.returns
returns c = rw (← (signed_printed_64 c.ranges.latitude), ← (signed_printed_64 c.ranges.longitude), ← c.format.ensures.text, ← c.format-2.ensures.text) c.row.ensures
