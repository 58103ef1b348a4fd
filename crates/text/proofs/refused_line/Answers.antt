-- `text::refused_line` meets its contract. Assumes nothing.
use Rattle.text.specs.Lines.{refused_line}
use Rattle.text.proofs.Printed.{number_printed}
use Rattle.text.proofs.refused_line.Goals as goal

pub returns : goal.returns
unfolding refused_line
returns c = rw (← (number_printed c.args.refusal), ← (rw c.number.ensures at c.format.ensures.text)) c.row.ensures
