-- What is on the sheet, as orders, and back. Assumes nothing.
use Rattle.arith.proofs.Parts.{linear}
use Rattle.arith.proofs.Order.{true_within}
use Rattle.arith.proofs.Tests.{said, facts}
use Rattle.sheet.specs.Sheets.{on_sheet}
use Rattle.sheet.specs.Laws.{OnSheetHolds, HoldsOnSheet}

pub on_sheet-holds : OnSheetHolds
unfolding on_sheet
on_sheet-holds s latitude longitude e = let t = facts e (search said depth 9) in omega linear

pub holds-on_sheet : HoldsOnSheet
unfolding on_sheet
holds-on_sheet s latitude longitude h = rw (true_within h.longitude_range, true_within h.between_edges, true_within h.offset)
