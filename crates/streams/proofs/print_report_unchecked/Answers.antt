-- What is written is within the buffer, as is required of the report.
use mathlib.Core.Path.{sym}
use lib.Seq.{length-take-le}
use Rattle.streams.proofs.print_report_unchecked.Goals as goal

pub slice_bounds-text-end : goal.slice_bounds-text-end
slice_bounds-text-end g c = c.requires.within _ _ _ _ c.report-end.ensures

pub slice_bounds-write_all-end : goal.slice_bounds-write_all-end
slice_bounds-write_all-end g c = sym (length-take-le _ _ (c.requires.within _ _ _ _ c.report-end.ensures))
