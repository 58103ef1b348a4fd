-- What holds of the crowding report. Each law is proved in proofs/, in the file that its comment names.
use Rattle.std.specs.Prelude.{List, ◌≡◌, ℕ, suc, ◌<◌, ℤ, length, get_or, take}
use Rattle.place.specs.declared.Place.{Place}
use Rattle.place.specs.Places.{blank_place}
use Rattle.reach.specs.Lists.{positions_in_reach}
use Rattle.atlas_file.specs.Steps.{most_places}
use Rattle.atlas_file.specs.Reading.{read_reply}
use Rattle.integrity.specs.Integrity.{longest_file}
use Rattle.programs.specs.Listing.{listing_of}
use Rattle.crowding_report.specs.Crowding.{others_within, crowding_of}

-- for any reach, how many others there are is the length of the place's own list, less itself (Others)
abbrev pub OwnListLessItself : Type 0
OwnListLessItself = (ps : List Place) (k : ℕ) (reach : ℤ) → k < length ps →
    let p = get_or ps k blank_place in
    length (positions_in_reach ps p.«x» p.«y» reach) ≡ suc (others_within ps k reach)

-- a file is refused as the lister refuses it: the same line is printed (AsTheLister)
abbrev pub RefusedAsListed : Type 0
RefusedAsListed = (file : List ℕ) → ((read_reply file most_places).number ≡ 0 → ⊥) → crowding_of file ≡ listing_of file

-- it is enough to read 37,043 bytes of a file (AsTheLister)
abbrev pub FirstBytesReported : Type 0
FirstBytesReported = (file : List ℕ) (k : ℕ) → longest_file < k → crowding_of (take k file) ≡ crowding_of file
