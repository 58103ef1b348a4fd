-- What holds of what the programs print. Each law is proved in proofs/, in the file that its comment names.
use mathlib.Core.List.{List, [], ◌∷◌, ◌++◌, flatten}
use Rattle.std.specs.Prelude.{◌≡◌, ℕ, ◌<◌, ℤ, length, get_or, take}
use Rattle.sheet.specs.declared.Sheet.{Sheet}
use Rattle.conic.specs.MapToGlobe.{inverse_reply}
use Rattle.place.specs.declared.Place.{Place}
use Rattle.place.specs.Places.{blank_place}
use Rattle.nearest.specs.Taps.{usual_reach}
use Rattle.nearest.specs.Laws.{IsNearest, NoneInReach}
use Rattle.atlas_file.specs.Steps.{most_places}
use Rattle.atlas_file.specs.Reading.{read_reply}
use Rattle.integrity.specs.Integrity.{longest_file}
use Rattle.atlas.specs.Tables.{table_after}
use Rattle.text.specs.Lines.{found_line, nothing_found_line}
use Rattle.programs.specs.declared.Begun.{Begun}
use Rattle.programs.specs.Listing.{listing_of}
use Rattle.programs.specs.Tapping.{value_at, point_line, answers_after, tap_output, nothing_begun, begun_by, printed_by, printed_at_end}

-- all that is printed where the input is read part by part, and then is at its end
abbrev pub printed_in_parts : Sheet → List Place → Begun → (parts : List (List ℕ)) → List ℕ
printed_in_parts s ps g [] = printed_at_end s ps g
printed_in_parts s ps g (part ∷ parts) = printed_by s ps g part ++ printed_in_parts s ps (begun_by g part) parts

-- it is the answers to the lines of the whole input, whatever its parts are, though a line that is begun keeps no more than its first 25 bytes (Answering)
abbrev pub PartsAnswered : Type 0
PartsAnswered = (s : Sheet) (ps : List Place) (parts : List (List ℕ)) → printed_in_parts s ps nothing_begun parts ≡ answers_after s ps [] (flatten parts)

-- so what is printed by the first entries of a table of 1,000, as many as an accepted `atlas.bin` that was read into it has places, is what the tap
-- program is to print (Answering)
abbrev pub TapAnswered : Type 0
TapAnswered = (file : List ℕ) (table : List Place) (parts : List (List ℕ)) → length table ≡ most_places →
    let reply = read_reply file (length table) in
    reply.number ≡ 0 → printed_in_parts reply.sheet (take reply.count (table_after file table)) nothing_begun parts ≡ tap_output file (flatten parts)

-- a map point that has a position: `-` is printed if no place is in reach, else the id of the nearest place (InReach)
abbrev pub NoneInReachDash : Type 0
NoneInReachDash = (s : Sheet) (ps : List Place) (x y : ℤ) →
    let position = inverse_reply s x y in
    position.number ≡ 0 → NoneInReach ps x y usual_reach → point_line s ps x y ≡ nothing_found_line (value_at 0 position) (value_at 1 position)

abbrev pub NearestNamed : Type 0
NearestNamed = (s : Sheet) (ps : List Place) (x y : ℤ) (k : ℕ) →
    let position = inverse_reply s x y in
    position.number ≡ 0 → IsNearest ps x y usual_reach k → point_line s ps x y ≡ found_line (value_at 0 position) (value_at 1 position) (get_or ps k blank_place).«id»

-- of a file it is enough to read 37,043 bytes (FirstBytes)
abbrev pub FirstBytesListed : Type 0
FirstBytesListed = (file : List ℕ) (k : ℕ) → longest_file < k → listing_of (take k file) ≡ listing_of file

abbrev pub FirstBytesTapped : Type 0
FirstBytesTapped = (file input : List ℕ) (k : ℕ) → longest_file < k → tap_output (take k file) input ≡ tap_output file input
