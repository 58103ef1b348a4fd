-- `text::file_refused_line` meets its contract. Assumes nothing.
use Rattle.text.specs.Lines.{file_refused_line}
use Rattle.text.proofs.Printed.{number_printed, printed_64}
use Rattle.text.proofs.file_refused_line.Goals as goal

pub returns : goal.returns
unfolding file_refused_line
returns c =
    rw (← (number_printed c.args.refusal), ← (printed_64 c.ranges.offset), ← (rw c.number.ensures at c.format.ensures.text), ← c.format-2.ensures.text) c.row.ensures
