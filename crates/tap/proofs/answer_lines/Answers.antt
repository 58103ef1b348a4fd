-- What is printed of a part ends within the buffer.
use mathlib.Core.Path.{sym}
use lib.Seq.{length-take-le}
use Rattle.programs.proofs.Listings.{stands_within}
use Rattle.tap.proofs.answer_lines.Goals as goal

pub slice_bounds-out-end : goal.slice_bounds-out-end
slice_bounds-out-end c = stands_within _ _ c.answers-end.ensures.printed

pub slice_bounds-write_all-end : goal.slice_bounds-write_all-end
slice_bounds-write_all-end c = sym (length-take-le _ _ (stands_within _ _ c.before.answers-end.ensures.printed))
