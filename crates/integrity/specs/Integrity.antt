-- What holds of reading and writing a file. Each is proved in proofs/, in the file that its comment names.
use Rattle.std.specs.Prelude.{ℕ, ◌+◌, ◌*◌, ◌≤◌, ◌<◌, true, ◌≡◌, List, [], ◌∷◌, length, get_or, take, drop, pos}
use Rattle.refusal.specs.declared.Refusal.TheVariants.{Cut, NoRoom}
use Rattle.refusal.specs.Numbers.{accepted}
use Rattle.refusal.specs.Rules.{all_hold}
use Rattle.sheet.specs.declared.Sheet.{Sheet}
use Rattle.place.specs.Laws.{IsOwn}
use Rattle.place.specs.Places.{blank_place}
use Rattle.place.specs.declared.Place.{Place}
use Rattle.little_endian.specs.Numbers.{Bytes}
use Rattle.records.specs.declared.Record.TheVariants as records
use Rattle.records.specs.Records.{IsRecord, IsSheet, IsPlace, sheet_record, place_of}
use Rattle.records.specs.Laws.{longest_sheet_record}
use Rattle.atlas_file.specs.Steps.{most_places}
use Rattle.atlas_file.specs.Reading.{accepted_reading, refused_reading, read_of, read_reply, places_read}
use Rattle.atlas_file.specs.Writing.{file_of, file_length, list_rules, write_reply}

-- THE COUNT of an accepted file is the number of the places read, at most 1,000 and at most the room (Accepted)
abbrev pub CountIsPlaces : Type 0
CountIsPlaces = (b : List ℕ) (room : ℕ) → (read_reply b room).number ≡ 0 →
    let count = (read_reply b room).count in
    (count ≡ length (places_read b room)) × (count ≤ most_places) × (count ≤ room)

-- NOTHING IS ACCEPTED that its own sheet does not give: the sheet passes its checks, and every place passes 6, 7, 8 and 14 (Accepted)
abbrev pub ReadIsGood : Type 0
ReadIsGood = (b : List ℕ) (room : ℕ) → (read_reply b room).number ≡ 0 → all_hold (list_rules (read_reply b room).sheet (places_read b room)) ≡ true

-- so every place that was read lies where the file's sheet says, not a unit off; and the ids rise (Shown)
abbrev pub AreOwn : Sheet → List Place → Type 0
AreOwn s [] = Unit
AreOwn s (p ∷ ps) = IsOwn s p × AreOwn s ps

abbrev pub OwnPositions : Type 0
OwnPositions = (b : List ℕ) (room : ℕ) → (read_reply b room).number ≡ 0 → AreOwn (read_reply b room).sheet (places_read b room)

abbrev pub RiseAbove : (last : ℕ) → List Place → Type 0
RiseAbove last [] = Unit
RiseAbove last (p ∷ ps) = (last < p.«id») × RiseAbove p.«id» ps

abbrev pub Rising : List Place → Type 0
Rising [] = Unit
Rising (p ∷ ps) = RiseAbove p.«id» ps

abbrev pub RisingIds : Type 0
RisingIds = (b : List ℕ) (room : ℕ) → (read_reply b room).number ≡ 0 → Rising (places_read b room)

-- room for all the places is room enough (Rooms)
abbrev pub RoomEnough : Type 0
RoomEnough = (b : List ℕ) (room other : ℕ) → (read_reply b room).number ≡ 0 → (read_reply b room).count ≤ other → read_of b other ≡ read_of b room

-- and with less, the first place that has none is refused with 10 (Rooms)
abbrev pub RoomShort : Type 0
RoomShort = (b : List ℕ) (room other : ℕ) → (read_reply b room).number ≡ 0 → other < (read_reply b room).count →
    read_of b other ≡ refused_reading NoRoom (length (sheet_record (read_reply b room).sheet) + 37 * other)

-- A CUT FILE. A good file cut at any byte short of its end is refused with 1, if the room is enough for all its places (Cuts)
abbrev pub CutRefused : Type 0
CutRefused = (b : List ℕ) (room other k : ℕ) → (read_reply b room).number ≡ 0 → (read_reply b room).count ≤ other → k < length b →
    (offset : ℕ) × (offset ≤ k) × (read_of (take k b) other ≡ refused_reading Cut offset)

-- READING WHAT WAS WRITTEN gives it back: a sheet and places that the writer does not refuse, into a table with room (Returns)
abbrev pub ArePlaces : List Place → Type 0
ArePlaces [] = Unit
ArePlaces (p ∷ ps) = IsPlace p × ArePlaces ps

abbrev pub ReadsBack : Type 0
ReadsBack = (s : Sheet) (ps : List Place) (room : ℕ) → IsSheet s → ArePlaces ps → all_hold (list_rules s ps) ≡ true → length ps ≤ room →
    read_of (file_of s ps) room ≡ accepted_reading (length ps) s ps

-- WRITING WHAT WAS READ gives the same bytes, and the writer does not refuse it (Accepted)
abbrev pub WritesBack : Type 0
WritesBack = (b : List ℕ) (room : ℕ) → Bytes b → (read_reply b room).number ≡ 0 → file_of (read_reply b room).sheet (places_read b room) ≡ b

abbrev pub WriterAccepts : Type 0
WriterAccepts = (b : List ℕ) (room size : ℕ) → Bytes b → (read_reply b room).number ≡ 0 → length b ≤ size →
    write_reply (read_reply b room).sheet (places_read b room) size ≡ accepted (pos (length b) ∷ [])

-- THE LENGTH of an accepted file: its sheet's record, 37 bytes a place, and 5 (Accepted)
abbrev pub FileLength : Type 0
FileLength = (b : List ℕ) (room : ℕ) → (read_reply b room).number ≡ 0 → length b ≡ file_length (read_reply b room).sheet (read_reply b room).count

-- so it is no longer than its sheet's record and 37,005 bytes more: with a sheet's record of 37 bytes, 37,042 (Accepted)
abbrev pub longest_file : ℕ
longest_file = longest_sheet_record + 37005

abbrev pub LongestFile : Type 0
LongestFile = (b : List ℕ) (room : ℕ) → (read_reply b room).number ≡ 0 →
    (length b ≤ length (sheet_record (read_reply b room).sheet) + 37005) × (length b ≤ longest_file)

-- and reading the first 37,043 bytes of anything, or more, gives the answer of the whole (Cuts)
abbrev pub FirstBytesDecide : Type 0
FirstBytesDecide = (b : List ℕ) (room k : ℕ) → longest_file < k → read_of (take k b) room ≡ read_of b room

-- what the writer makes has that length too (Lengths)
abbrev pub WrittenLength : Type 0
WrittenLength = (s : Sheet) (ps : List Place) → all_hold (list_rules s ps) ≡ true → length (file_of s ps) ≡ file_length s (length ps)

-- WHERE A PLACE STANDS: its record is the 37 bytes from `at` on
abbrev pub StandsAt : List ℕ → (at : ℕ) → Place → Type 0
StandsAt b at p = IsRecord records.Place (take 37 (drop at b)) × (place_of (take 37 (drop at b)) ≡ p)

-- in an accepted file the places stand one after the other, after the sheet (Stands)
abbrev pub PlaceStands : Type 0
PlaceStands = (b : List ℕ) (room k : ℕ) → (read_reply b room).number ≡ 0 → k < (read_reply b room).count →
    StandsAt b (length (sheet_record (read_reply b room).sheet) + 37 * k) (get_or (places_read b room) k blank_place)

-- a refused file has no places (Stands)
abbrev pub RefusedHasNone : Type 0
RefusedHasNone = (b : List ℕ) (room : ℕ) → ((read_reply b room).number ≡ 0 → ⊥) → places_read b room ≡ []
