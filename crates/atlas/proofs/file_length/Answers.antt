-- `atlas::file_length` meets its contract. Assumes nothing.
use native.Mathlib.Omega.{arith}
use Rattle.records.specs.Records.{sheet_record}
use Rattle.records.proofs.SheetRecords.{sheet-kind, sheet-most}
use Rattle.atlas.proofs.file_length.Goals as goal

pub overflow_add-result : goal.overflow_add-result
overflow_add-result c = let s = c.args.sheet in omega (arith, sheet-most (sheet_record s) (sheet-kind s))

pub overflow_add-result-2 : goal.overflow_add-result-2
overflow_add-result-2 c = let s = c.args.sheet in omega (arith, sheet-most (sheet_record s) (sheet-kind s))
