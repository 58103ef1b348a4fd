-- `crowding_report::report` meets its contract. Assumes nothing.
use mathlib.Core.Path.{◌∙◌}
use Rattle.refusal.proofs.Distinct.{not_zero}
use Rattle.crowding_report.specs.Crowding.{crowding_of}
use Rattle.crowding_report.proofs.report.Goals as goal

pub returns-in-Ok : goal.returns-in-Ok
unfolding crowding_of
returns-in-Ok c = rw (← c.in-Ok.ensures.accepted, c.in-Ok.places.accepted.good) c.put_lines.ensures

pub returns-in-Err : goal.returns-in-Err
unfolding crowding_of
returns-in-Err c = rw (← c.in-Err.ensures.refused, not_zero c.in-Err.why.refusal) (rw (c.as_bytes.ensures.value ∙ c.as_str.ensures.value ∙ c.file_refused_line-line.ensures.1) at c.put_line_unchecked.ensures)
