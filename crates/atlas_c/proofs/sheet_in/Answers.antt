-- `atlas_c::sheet_in` meets its contract. Assumes nothing.
use mathlib.Core.Path.{ap, sym, ◌∙◌}
use Rattle.std.specs.Prelude.{Ok}
use Rattle.sheet.proofs.Answers.{good-passes}
use Rattle.atlas_c.proofs.SheetIn.{record_taken}
use Rattle.atlas_c.proofs.sheet_in.Goals as goal

pub invariant_of-result : goal.invariant_of-result
invariant_of-result c = record { passes = good-passes c.decode_sheet_unchecked-sheet.result c.in-Ok.ensures }

pub returns-in-Ok : goal.returns-in-Ok
returns-in-Ok c =
    let d = c.decode_sheet_unchecked-sheet in
    let ok = good-passes d.result c.in-Ok.ensures in
    ap Ok d.ensures ∙ sym (record_taken _ (c.is_sheet_record.ensures c.if-is_sheet_record.true) (rw d.ensures at ok))
