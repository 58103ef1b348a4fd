-- What holds of the step and of reading step by step. Each is proved in proofs/, in the file that its comment names.
use Rattle.std.specs.Prelude.{ℕ, ◌+◌, ◌-◌, ◌<◌, true, false, ◌≡◌, List, ◌++◌, length, drop, Result, Ok}
use Rattle.refusal.specs.Rules.{all_hold}
use Rattle.sheet.specs.declared.Sheet.{Sheet}
use Rattle.sheet.specs.Sheets.{passes_checks}
use Rattle.place.specs.Places.{place_rules}
use Rattle.records.specs.declared.Record.{Record}
use Rattle.records.specs.declared.Record.TheVariants as records
use Rattle.place.specs.declared.Place.{Place}
use Rattle.records.specs.Records.{IsRecord, sheet_of, place_of, end_of}
use Rattle.atlas_file.specs.declared.State.{State}
use Rattle.atlas_file.specs.declared.Found.TheVariants as found
use Rattle.atlas_file.specs.declared.reading.Atlas.{Atlas}
use Rattle.atlas_file.specs.declared.reading.FileRefusal.{FileRefusal}
use Rattle.atlas_file.specs.Steps.{most_places, StepAnswer, past_sheet, past_place, step_of, next_of, step_reply_of}
use Rattle.atlas_file.specs.Reading.{file_reply_of, steps_on, read_from}

-- two answers of reading never share a number and values, so that the contract fixes the answer (Answers)
abbrev pub DistinctFileReplies : Type 0
DistinctFileReplies = (a b : Result Atlas FileRefusal) → file_reply_of a ≡ file_reply_of b → a ≡ b

-- nor do two answers of a step, from any two states, with the states after them (Answers)
abbrev pub DistinctStepReplies : Type 0
DistinctStepReplies = (s t : State) (a b : StepAnswer) → step_reply_of s a ≡ step_reply_of t b → (a ≡ b) × (next_of s a ≡ next_of t b)

-- ONE RECORD A STEP. From a state to the next lies exactly one record, r
pub record OneRecord (which : Record) (b : List ℕ) (s next : State) (r : List ℕ) : Type 0 where
  pub is_record : IsRecord which r
  pub here : drop s.«at» b ≡ r ++ drop next.«at» b
  pub past : next.«at» ≡ s.«at» + length r

-- a step that answers a sheet, which was due and passes 4 and 5, moves past its record and no further (Moves)
abbrev pub SheetMoves : Type 0
SheetMoves = (b : List ℕ) (s next : State) (h : Sheet) → step_of b s ≡ Ok (record { «found» = found.Sheet h; «next» = next }) →
    (r : List ℕ)
    × OneRecord records.Sheet b s next r
    × (h ≡ sheet_of r)
    × (next ≡ past_sheet s r)
    × (s.sheet_read ≡ false)
    × (passes_checks h ≡ true)

-- one that answers a place, which was due, has room and passes 6, 7, 8 and 14, moves past its record and counts it (Moves)
abbrev pub PlaceMoves : Type 0
PlaceMoves = (b : List ℕ) (s next : State) (p : Place) → step_of b s ≡ Ok (record { «found» = found.Place p; «next» = next }) →
    (r : List ℕ)
    × OneRecord records.Place b s next r
    × (p ≡ place_of r)
    × (next ≡ past_place s r)
    × (s.sheet_read ≡ true)
    × (s.«count» < most_places)
    × (s.«count» < s.«room»)
    × (all_hold (place_rules s.«sheet» s.«count» s.last_id p) ≡ true)

-- the end, which was due, has the count of the places read, and nothing after it (Moves)
abbrev pub EndIsLast : Type 0
EndIsLast = (b : List ℕ) (s next : State) (count : ℕ) → step_of b s ≡ Ok (record { «found» = found.End count; «next» = next }) →
    (r : List ℕ) × IsRecord records.End r × (drop s.«at» b ≡ r) × (s.sheet_read ≡ true) × (count ≡ end_of r) × (count ≡ s.«count»)

-- after a refusal or the end it stays, and gives the same answer again (Moves)
abbrev pub Stays : Type 0
Stays = (b : List ℕ) (s : State) → steps_on (step_of b s) ≡ false → next_of s (step_of b s) ≡ s

abbrev pub SameAgain : Type 0
SameAgain = (b : List ℕ) (s : State) → steps_on (step_of b s) ≡ false → step_of b (next_of s (step_of b s)) ≡ step_of b s

-- the bound on the steps never decides: any two that are large enough give the same (Moves)
abbrev pub BoundNeverReached : Type 0
BoundNeverReached = (b : List ℕ) (s : State) (places : List Place) (m n : ℕ) → length b - s.«at» < m → length b - s.«at» < n →
    read_from m b s places ≡ read_from n b s places
