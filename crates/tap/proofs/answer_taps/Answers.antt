-- An accepted file has no more places than the table has room for.
use mathlib.Core.List.{List}
use mathlib.Core.Path.{◌≡◌, refl, ap, sym}
use Prim.Native.Nat.{ℕ, ◌≤◌}
use native.Mathlib.Omega.{arith}
use lib.Seq.{length-take-le}
use Rattle.sheet.specs.declared.Sheet.{Sheet}
use Rattle.atlas_file.specs.Reading.{FileReply, accepted_file, read_reply}
use Rattle.atlas.proofs.FilePlaces.{accepted-file, accepted-count}
use Rattle.tap.proofs.answer_taps.Goals as goal

-- an accepted file has at most as many places as its table has room for
fits : (file : List ℕ) (room count : ℕ) (sheet : Sheet) → accepted_file count sheet ≡ read_reply file room → count ≤ room
fits file room count sheet is = omega (arith, ap (λ (X : FileReply). X.count) is, (accepted-count (accepted-file is refl)).1)

pub slice_bounds-table-end : goal.slice_bounds-table-end
slice_bounds-table-end c = omega (arith, fits c.args.file.now 1000 c.in-Ok.atlas.count c.in-Ok.atlas.sheet (rw c.in-Ok.is at c.read.ensures.0), c.read.auto.table)

pub slice_bounds-answer_lines-end : goal.slice_bounds-answer_lines-end
slice_bounds-answer_lines-end c =
    sym (length-take-le _ _ (omega (arith, fits c.args.file.now 1000 c.in-Ok.atlas.count c.in-Ok.atlas.sheet (rw c.in-Ok.is at c.read.ensures.0), c.read.auto.table)))
