-- `atlas_c::atlas_sheet` meets its contract. Assumes nothing.
use Prim.Native.Nat.{◌≤◌, ◌<◌}
use native.Mathlib.Omega.{arith}
use borrow.Author.Tests.{le-leb, lt-leb}
use lib.ListN.{length}
use Rattle.records.specs.Records.{sheet_record}
use Rattle.refusal.proofs.Distinct.{not_zero}
use Rattle.atlas_c.specs.Given.{sheet_reply, sheet_after}
use Rattle.atlas_c.proofs.atlas_sheet.Goals as goal

pub returns-then-sheet-length : goal.returns-then-sheet-length
unfolding sheet_reply sheet_after
returns-then-sheet-length c =
    let short : length c.args.sheet.now < length (sheet_record c.in-Ok.atlas.sheet) = omega arith in
    let test = lt-leb _ _ short in
    record { sheet_length_after = rw (c.number.ensures, ← c.in-Ok.ensures, test); sheet_after = rw (← c.in-Ok.ensures, test) }

pub returns-else-sheet-length : goal.returns-else-sheet-length
unfolding sheet_reply sheet_after
returns-else-sheet-length c =
    let n = c.sheet_record_length-length.ensures in
    let room : length (sheet_record c.in-Ok.atlas.sheet) ≤ length c.args.sheet.now = omega arith in
    let test = le-leb _ _ room in
    record { sheet_length_after = rw (n, ← c.in-Ok.ensures, test); sheet_after = rw (c.write_sheet_unchecked.ensures, n, ← c.in-Ok.ensures, test) }

pub returns-in-Err : goal.returns-in-Err
unfolding sheet_reply sheet_after
returns-in-Err c =
    let n = not_zero c.in-Err.why.refusal in
    record { sheet_length_after = rw (c.number-in-Err.ensures, ← c.in-Err.ensures, n, n); sheet_after = rw (← c.in-Err.ensures, n, n) }
