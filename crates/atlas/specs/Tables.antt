-- Document 01, 'The atlas file': the caller's table of places, a list, after a file is read into it.
use Rattle.std.specs.Prelude.{ℕ, ◌≡◌, List, ◌++◌, length, drop}
use Rattle.place.specs.declared.Place.{Place}
use Rattle.records.specs.Records.{sheet_record}
use Rattle.atlas_file.specs.Reading.{read_reply, places_read}

-- the places in the first entries; later entries are unchanged. There are no places where the file is refused, so that the table is then untouched.
abbrev pub table_after : (b : List ℕ) (before : List Place) → List Place
table_after b before =
    let places = places_read b (length before) in
    places ++ drop (length places) before

-- a file that is accepted into a table with so much room, and whose first place's record starts at `first`
pub record AcceptedFile (b : List ℕ) (room first : ℕ) : Type 0 where
  pub good : (read_reply b room).number ≡ 0
  pub starts : first ≡ length (sheet_record (read_reply b room).sheet)
