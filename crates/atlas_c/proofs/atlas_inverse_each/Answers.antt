-- `atlas_c::atlas_inverse_each` meets its contract. Assumes nothing.
use mathlib.Core.Path.{sym}
use Rattle.atlas_c.proofs.SheetIn.{each_room}
use Rattle.atlas_c.proofs.atlas_inverse_each.Goals as goal

pub answer_each-requires : goal.answer_each-requires
answer_each-requires c = each_room _ _ _ _ (sym c.in-Ok.ensures)
