-- Document 01, 'The atlas file': the reader, one record for each step. A state is where it stands: the position `at` of a kind byte, whether the sheet is read, the sheet, how many places are read, the last id, and the room in the caller's table.
use Rattle.std.specs.Prelude.{ℕ, suc, ◌+◌, Bool, true, not, ◌&&◌, List, [], ◌∷◌, ◌++◌, get_or, length, take, drop, eqb, ltb, Result, Ok, Err}
use Rattle.refusal.specs.declared.Refusal.{Refusal}
use Rattle.refusal.specs.declared.Refusal.TheVariants.{Cut, Kind, TrailingBytes, EndCount, NoRoom}
use Rattle.refusal.specs.Numbers.{number_of}
use Rattle.refusal.specs.Rules.{Rule, ◌else-refuse◌, outcome}
use Rattle.sheet.specs.declared.Sheet.{Sheet}
use Rattle.sheet.specs.Sheets.{sheet_rules, blank_sheet}
use Rattle.records.specs.declared.Record.{Record}
use Rattle.records.specs.declared.Record.TheVariants as records
use Rattle.records.specs.Records.{layout_of, body_of, record_number, sheet_of, place_of, end_of}
use Rattle.atlas_file.specs.declared.State.{State}
use Rattle.atlas_file.specs.declared.Found.{Found}
use Rattle.atlas_file.specs.declared.Found.TheVariants as found
use Rattle.atlas_file.specs.declared.Advance.{Advance}
use Rattle.atlas_file.specs.declared.reading.FileRefusal.{FileRefusal}
use Rattle.place.specs.declared.Place.{Place}
use Rattle.place.specs.Places.{blank_place, place_rules}

-- 0 to 1,000 places
abbrev pub most_places : ℕ
most_places = 1000

-- what a step answers: what is found, and the state after it; or the refusal and its offset
abbrev pub StepAnswer : Type 0
StepAnswer = Result Advance FileRefusal

abbrev pub refused_step : Refusal → (offset : ℕ) → StepAnswer
refused_step why offset = Err (record { «refusal» = why; «offset» = offset })

-- an answer about the record at a state: a refusal has the offset of the record's kind byte
abbrev pub at_record : {T : Type 0} → State → Result T Refusal → Result T FileRefusal
at_record s (Ok found) = Ok found
at_record s (Err why) = Err (record { «refusal» = why; «offset» = s.«at» })

abbrev pub refused_here : State → Refusal → StepAnswer
refused_here s why = refused_step why s.«at»

-- one sheet first, then places, one end: kind not due there, 2; a place when 1,000 are read or the caller's table is full, 10
unfoldable pub due_rules : Record → State → List Rule
due_rules records.Sheet s = (not s.sheet_read else-refuse Kind) ∷ []
due_rules records.Place s = (s.sheet_read else-refuse Kind) ∷ (ltb s.«count» most_places && ltb s.«count» s.«room» else-refuse NoRoom) ∷ []
due_rules records.End s = (s.sheet_read else-refuse Kind) ∷ []

-- the state past a sheet, of its record r, and past a place
abbrev pub past_sheet : State → (r : List ℕ) → State
past_sheet s r = record { «at» = s.«at» + length r; sheet_read = true; «sheet» = sheet_of r; «count» = s.«count»; last_id = s.last_id; «room» = s.«room» }

abbrev pub past_place : State → (r : List ℕ) → State
past_place s r = record { «at» = s.«at» + length r; sheet_read = s.sheet_read; «sheet» = s.«sheet»; «count» = s.«count» + 1; last_id = (place_of r).«id»; «room» = s.«room» }

-- a sheet: 4, 5; it is answered, and the state moves past it
unfoldable pub sheet_step : (r : List ℕ) → State → StepAnswer
sheet_step r s =
    outcome (sheet_rules (sheet_of r))
    (Ok (record { «found» = found.Sheet (sheet_of r); «next» = past_sheet s r }))
    (refused_here s)

-- a place: 6, 7, 8, 14; it is answered, and the state moves past it
unfoldable pub place_step : (r : List ℕ) → State → StepAnswer
place_step r s =
    outcome (place_rules s.«sheet» s.«count» s.last_id (place_of r))
    (Ok (record { «found» = found.Place (place_of r); «next» = past_place s r }))
    (refused_here s)

-- the end: 9, then 3 where more bytes follow
abbrev pub end_rules : (r : List ℕ) → State → List Rule
end_rules r s = (eqb (end_of r) s.«count» else-refuse EndCount) ∷ []

abbrev pub last_rules : (more : Bool) → List Rule
last_rules more = (not more else-refuse TrailingBytes) ∷ []

-- 3 has the offset of the first byte past the end
abbrev pub refused_past : State → (r : List ℕ) → Refusal → StepAnswer
refused_past s r why = refused_step why (s.«at» + length r)

-- the end is answered, and the state stays
abbrev pub end_found : State → (r : List ℕ) → StepAnswer
end_found s r = Ok (record { «found» = found.End (end_of r); «next» = s })

unfoldable pub end_step : (r : List ℕ) (more : Bool) → State → StepAnswer
end_step r more s = outcome (end_rules r s) (outcome (last_rules more) (end_found s r) (refused_past s r)) (refused_here s)

-- what a record that is due and whole comes to; `more`: bytes follow it
unfoldable pub content_step : Record → (r : List ℕ) (more : Bool) → State → StepAnswer
content_step records.Sheet r more s = sheet_step r s
content_step records.Place r more s = place_step r s
content_step records.End r more s = end_step r more s

-- a record at the front of the bytes that are left: due, 2 and 10; body short, 1; then what it holds
unfoldable pub record_step : Record → (left : List ℕ) → State → StepAnswer
record_step which left s =
    outcome (due_rules which s ++ ((ltb (body_of which) (length left) else-refuse Cut) ∷ []))
    (content_step which (take (suc (body_of which)) left) (ltb (suc (body_of which)) (length left)) s)
    (refused_here s)

-- its kind byte fixes which record it is and how long; kind unknown, 2
abbrev pub layout_step : Result Record Refusal → (left : List ℕ) → State → StepAnswer
layout_step (Ok which) left s = record_step which left s
layout_step (Err why) left s = refused_here s why

-- the step: no kind byte, 1
unfoldable pub step_of : List ℕ → State → StepAnswer
step_of b s = outcome ((ltb s.«at» (length b) else-refuse Cut) ∷ []) (layout_step (layout_of (get_or b s.«at» 0)) (drop s.«at» b) s) (refused_here s)

-- What comes back of a step: the number of the refusal (0 of a record) and the offset; which record it is (1 sheet, 2 place, 3 end; 0 of a refusal), its sheet, place or count; and the state after it.
pub record StepReply : Type 0 where
  pub number : ℕ
  pub offset : ℕ
  pub which : ℕ
  pub sheet : Sheet
  pub place : Place
  pub count : ℕ
  pub next : State

abbrev pub found_reply : Found → State → StepReply
found_reply (found.Sheet h) next = record { number = 0; offset = 0; which = record_number records.Sheet; sheet = h; place = blank_place; count = 0; next = next }
found_reply (found.Place p) next = record { number = 0; offset = 0; which = record_number records.Place; sheet = blank_sheet; place = p; count = 0; next = next }
found_reply (found.End count) next = record { number = 0; offset = 0; which = record_number records.End; sheet = blank_sheet; place = blank_place; count = count; next = next }

-- the state after a step from s: after a refusal it is as it was
abbrev pub next_of : State → StepAnswer → State
next_of s (Ok advance) = advance.«next»
next_of s (Err why) = s

-- the number and the values that the answer to a step from s stands for
abbrev pub step_reply_of : State → StepAnswer → StepReply
step_reply_of s (Ok advance) = found_reply advance.«found» advance.«next»
step_reply_of s (Err why) = record { number = number_of why.«refusal»; offset = why.«offset»; which = 0; sheet = blank_sheet; place = blank_place; count = 0; next = s }

-- what a step comes to
abbrev pub step_reply : List ℕ → State → StepReply
step_reply b s = step_reply_of s (step_of b s)
