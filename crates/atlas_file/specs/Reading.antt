-- Document 01, 'The atlas file': what reading a file comes to.
use Rattle.std.specs.Prelude.{ℕ, zero, suc, Bool, true, false, List, [], ◌∷◌, ◌++◌, length, Result, Ok, Err}
use Rattle.refusal.specs.declared.Refusal.{Refusal}
use Rattle.refusal.specs.declared.Refusal.TheVariants.{Cut}
use Rattle.refusal.specs.Numbers.{number_of}
use Rattle.sheet.specs.declared.Sheet.{Sheet}
use Rattle.place.specs.declared.Place.{Place}
use Rattle.sheet.specs.Sheets.{blank_sheet}
use Rattle.atlas_file.specs.declared.State.{State}
use Rattle.atlas_file.specs.declared.Found.{Found}
use Rattle.atlas_file.specs.declared.Found.TheVariants as found
use Rattle.atlas_file.specs.declared.reading.Atlas.{Atlas}
use Rattle.atlas_file.specs.declared.reading.FileRefusal.{FileRefusal}
use Rattle.atlas_file.specs.Steps.{StepAnswer, step_of}

-- What comes back of a file: the number of the refusal (0 of an acceptance), the offset, the count, the sheet.
pub record FileReply : Type 0 where
  pub number : ℕ
  pub offset : ℕ
  pub count : ℕ
  pub sheet : Sheet

abbrev pub accepted_file : (count : ℕ) → Sheet → FileReply
accepted_file count s = record { number = 0; offset = 0; count = count; sheet = s }

-- a refusal returns its number and the offset, and zeros for the rest
abbrev pub refused_file : Refusal → (offset : ℕ) → FileReply
refused_file why offset = record { number = number_of why; offset = offset; count = 0; sheet = blank_sheet }

-- the number and the values that an answer stands for
abbrev pub file_reply_of : Result Atlas FileRefusal → FileReply
file_reply_of (Ok atlas) = accepted_file atlas.«count» atlas.«sheet»
file_reply_of (Err why) = refused_file why.«refusal» why.«offset»

-- What reading gives: the reply, and the places in the order of the file; none where it is refused.
pub record Reading : Type 0 where
  pub reply : FileReply
  pub places : List Place

abbrev pub accepted_reading : (count : ℕ) → Sheet → List Place → Reading
accepted_reading count s places = record { reply = accepted_file count s; places = places }

abbrev pub refused_reading : Refusal → (offset : ℕ) → Reading
refused_reading why offset = record { reply = refused_file why offset; places = [] }

-- before the first record: nothing is read
unfoldable pub start_of : (room : ℕ) → State
start_of room = record { «at» = 0; sheet_read = false; «sheet» = blank_sheet; «count» = 0; last_id = 0; «room» = room }

-- whether the file goes on after what a step finds
abbrev pub goes_on : Found → Bool
goes_on (found.Sheet s) = true
goes_on (found.Place p) = true
goes_on (found.End count) = false

-- and after what a step answers: a refusal is the last
abbrev pub steps_on : StepAnswer → Bool
steps_on (Ok advance) = goes_on advance.«found»
steps_on (Err why) = false

-- from a state on, after some places: step by step to the end or the first refusal, with a bound on the steps
unfoldable pub read_from : (steps : ℕ) → List ℕ → State → List Place → Reading
read_from zero b s places = refused_reading Cut s.«at»
read_from (suc steps) b s places =
    elim (step_of b s) [
      | Ok advance ↦
          elim advance.«found» [
            | found.Sheet h ↦ read_from steps b advance.«next» places
            | found.Place p ↦ read_from steps b advance.«next» (places ++ (p ∷ []))
            | found.End count ↦ accepted_reading count s.«sheet» places
          ]
      | Err why ↦ refused_reading why.«refusal» why.«offset»
    ]

-- a file, for a table with so much room. Each record has a byte or more, so that the bound is never reached (Laws: BoundNeverReached).
unfoldable pub read_of : List ℕ → (room : ℕ) → Reading
read_of b room = read_from (suc (length b)) b (start_of room) []

abbrev pub read_reply : List ℕ → (room : ℕ) → FileReply
read_reply b room = (read_of b room).reply

abbrev pub places_read : List ℕ → (room : ℕ) → List Place
places_read b room = (read_of b room).places
