-- Document 01, 'The atlas file': the bytes that a sheet and its places make, and when the writer refuses them.
use Rattle.std.specs.Prelude.{ℕ, ◌+◌, ◌*◌, List, [], ◌∷◌, ◌++◌, length, leb, pos}
use Rattle.refusal.specs.declared.Refusal.TheVariants.{NoRoom}
use Rattle.refusal.specs.Numbers.{Reply, accepted}
use Rattle.refusal.specs.Rules.{Rule, ◌else-refuse◌, in_order}
use Rattle.sheet.specs.declared.Sheet.{Sheet}
use Rattle.sheet.specs.Sheets.{sheet_rules}
use Rattle.place.specs.declared.Place.{Place}
use Rattle.records.specs.Records.{sheet_record, place_record, end_record}
use Rattle.place.specs.Places.{place_rules}
use Rattle.atlas_file.specs.Steps.{most_places}

-- one sheet first, then the places, one end, nothing after
unfoldable pub place_records : List Place → List ℕ
place_records [] = []
place_records (p ∷ ps) = place_record p ++ place_records ps

unfoldable pub file_of : Sheet → List Place → List ℕ
file_of s ps = sheet_record s ++ place_records ps ++ end_record (length ps)

-- the length of a file with so many places: its sheet's record, 37 bytes a place, and 5
abbrev pub file_length : Sheet → (count : ℕ) → ℕ
file_length s count = length (sheet_record s) + 37 * count + 5

-- each place in turn 6, 7, 8, 14, after `count` places, the last with the id `last`
unfoldable pub places_rules : Sheet → (count last : ℕ) → List Place → List Rule
places_rules s count last [] = []
places_rules s count last (p ∷ ps) = place_rules s count last p ++ places_rules s (count + 1) p.«id» ps

-- 4, 5, more than 1,000 places 10, each place in turn: what a sheet and its places have to be
unfoldable pub list_rules : Sheet → List Place → List Rule
list_rules s ps = sheet_rules s ++ ((leb (length ps) most_places else-refuse NoRoom) ∷ places_rules s 0 0 ps)

-- then buffer too short 10: `size` is the buffer's length
unfoldable pub write_rules : Sheet → List Place → (size : ℕ) → List Rule
write_rules s ps size = list_rules s ps ++ ((leb (length (file_of s ps)) size else-refuse NoRoom) ∷ [])

-- what the writer answers: one of those refusals, else the file's length
abbrev pub write_reply : Sheet → List Place → (size : ℕ) → Reply
write_reply s ps size = in_order 1 (write_rules s ps size) (accepted (pos (length (file_of s ps)) ∷ []))
