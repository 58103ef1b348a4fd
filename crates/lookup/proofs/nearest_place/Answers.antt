-- `lookup::nearest_place` meets its contract: its table has room for all the places that a file can have. Assumes nothing.
use mathlib.Core.Path.{◌≡◌, refl, sym, ap, ◌∙◌}
use Prim.Native.Nat.{ℕ, ◌≤◌}
use native.Mathlib.Omega.{arith}
use mir.Facts.{to_z-of_z}
use lib.ListN.{length, take}
use lib.Seq.{take_at, length-take-le}
use Rattle.std.specs.Prelude.{replicate}
use Rattle.std.proofs.lemmas.Result.{err_from_is_err_and}
use Rattle.refusal.proofs.Distinct.{not_zero}
use Rattle.atlas_file.specs.Steps.{most_places}
use Rattle.atlas_file.specs.Reading.{FileReply, accepted_file, read_reply, places_read}
use Rattle.atlas.proofs.FilePlaces.{accepted-file, accepted-count}
use Rattle.lookup.specs.Lookups.{nearest_place_reply}
use Rattle.lookup.proofs.nearest_place.Goals as goal
use mathlib.Core.List.{List}
use Rattle.sheet.specs.declared.Sheet.{Sheet}
use Rattle.place.specs.declared.Place.{Place}
use Rattle.atlas.specs.Tables.{table_after}

-- the first entries of the table are the places of the file
first-entries : (b : List ℕ) (before after : List Place) {count : ℕ} {sheet : Sheet} → accepted_file count sheet ≡ read_reply b most_places →
    length before ≡ most_places → after ≡ table_after b before → take count after ≡ places_read b most_places
first-entries b before after {count} told long is =
    let counted = ap (λ (X : FileReply). X.count) told ∙ (accepted-count (accepted-file told refl)).0 in
    let same = ap (places_read b) long in
    ap (take count) is ∙ take_at _ _ count (sym (counted ∙ ap length (sym same))) ∙ same

-- there are no more of them than the table has
few : (b : List ℕ) {count : ℕ} {sheet : Sheet} → accepted_file count sheet ≡ read_reply b most_places → count ≤ most_places
few b told = omega (arith, ap (λ (X : FileReply). X.count) told, (accepted-count (accepted-file told refl)).1)

pub slice_bounds-table-end : goal.slice_bounds-table-end
slice_bounds-table-end c =
    let e = c.in_ok-atlas.ensures in
    omega (arith, few c.args.bytes.now e.0, c.read.auto.table)

pub slice_bounds-nearest_among-end : goal.slice_bounds-nearest_among-end
slice_bounds-nearest_among-end c =
    let e = c.in_ok-atlas.ensures in
    sym (length-take-le _ _ (omega (arith, few c.args.bytes.now e.0, c.read.auto.table)))

pub returns-in_err-atlas : goal.returns-in_err-atlas
unfolding nearest_place_reply
returns-in_err-atlas c =
    let p = err_from_is_err_and c.from_residual.result c.from_residual.ensures.1 in
    let e = c.in_err-atlas.ensures in
    rw (p.1, p.2, ← e.0, not_zero c.in_err-atlas.field-0.0.«refusal»)

pub returns : goal.returns
unfolding nearest_place_reply
returns c =
    let f = c.ranges in
    let e = c.in_ok-atlas.ensures in
    let first = first-entries c.args.bytes.now (replicate most_places c.blank-table.result) c.read.new.table e.0 refl e.1 in
    rw (← e.0) (rw (to_z-of_z f.x, to_z-of_z f.y, to_z-of_z f.reach, first) at c.nearest_among.ensures)
