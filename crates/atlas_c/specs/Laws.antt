-- What holds of a sheet that goes in and out as its record's bytes. Each is proved in proofs/SheetIn.
use Rattle.std.specs.Prelude.{ℕ, true, List, ◌≡◌, Ok}
use Rattle.sheet.specs.declared.Sheet.{Sheet}
use Rattle.sheet.specs.Sheets.{passes_checks}
use Rattle.little_endian.specs.Numbers.{Bytes}
use Rattle.records.specs.Records.{IsSheet, sheet_record}
use Rattle.place.specs.declared.Place.{Place}
use Rattle.atlas_file.specs.declared.State.{State}
use Rattle.atlas_file.specs.declared.Found.TheVariants as found
use Rattle.atlas_file.specs.Steps.{step_of}
use Rattle.atlas_file.specs.Reading.{start_of}
use Rattle.atlas_c.specs.Given.{file_reply, sheet_in}

-- the record of a sheet that passes its checks, and whose fields fit their types, is taken as that sheet
abbrev pub SheetTaken : Type 0
SheetTaken = (s : Sheet) → IsSheet s → passes_checks s ≡ true → sheet_in (sheet_record s) ≡ Ok s

-- so the record that is given of a good file's sheet is taken as the file's sheet
abbrev pub FileSheetTaken : Type 0
FileSheetTaken = (file : List ℕ) → Bytes file → (file_reply file).number ≡ 0 → sheet_in (sheet_record (file_reply file).sheet) ≡ Ok (file_reply file).sheet

-- a sheet that is taken passes its checks
abbrev pub TakenPasses : Type 0
TakenPasses = (b : List ℕ) (s : Sheet) → sheet_in b ≡ Ok s → passes_checks s ≡ true

-- a first record is neither a place nor the end
abbrev pub NoPlaceFirst : Type 0
NoPlaceFirst = (b : List ℕ) (next : State) (p : Place) → step_of b (start_of 0) ≡ Ok (record { «found» = found.Place p; «next» = next }) → ⊥

abbrev pub NoEndFirst : Type 0
NoEndFirst = (b : List ℕ) (next : State) (count : ℕ) → step_of b (start_of 0) ≡ Ok (record { «found» = found.End count; «next» = next }) → ⊥
