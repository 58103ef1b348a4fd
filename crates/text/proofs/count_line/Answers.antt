-- `text::count_line` meets its contract. Assumes nothing.
use native.Mathlib.Omega.{arith}
use Rattle.text.specs.Lines.{count_line}
use Rattle.text.proofs.Printed.{printed_as}
use Rattle.text.proofs.count_line.Goals as goal

pub returns : goal.returns
unfolding count_line
returns c = rw (← (printed_as {n = c.args.count} c.format.ensures.text (omega arith) c.ranges.count)) c.row.ensures
