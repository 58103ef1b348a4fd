-- What the C functions give and write, by the replies of the engine's own contracts.
use Rattle.std.specs.Prelude.{ℕ, zero, suc, ◌+◌, ◌*◌, ◌/◌, ◌%◌, Bool, cond, List, [], ◌∷◌, ◌++◌, map, length, get_or, drop, eqb, leb, ℤ, pos, Result, Ok, Err}
use Rattle.refusal.specs.declared.Refusal.{Refusal}
use Rattle.refusal.specs.declared.Refusal.TheVariants.{Kind, TrailingBytes, NoRoom, OutOfRange}
use Rattle.refusal.specs.Numbers.{Reply, number_of, accepted, refused}
use Rattle.refusal.specs.Rules.{Rule, ◌else-refuse◌, outcome, in_order}
use Rattle.sheet.specs.declared.Sheet.{Sheet}
use Rattle.sheet.specs.declared.CheckedSheet.{CheckedSheet}
use Rattle.conic.specs.Conic as forward
use Rattle.conic.specs.MapToGlobe as inverse
use Rattle.place.specs.declared.Place.{Place}
use Rattle.records.specs.Records.{sheet_record}
use Rattle.atlas_file.specs.declared.Found.{Found}
use Rattle.atlas_file.specs.declared.Found.TheVariants as found
use Rattle.atlas_file.specs.Steps.{StepAnswer, most_places, step_of}
use Rattle.atlas_file.specs.Reading.{FileReply, read_reply, start_of}
use Rattle.lookup.specs.Lookups.{place_at_reply, nearest_place_reply}
use Rattle.lookup_all.specs.Positions.{positions_reply}

-- the number that a call gives, and what its out-parameters hold then
abbrev pub given : ℕ → List ℤ → Reply
given number values = record { number = number; values = values }

-- an answer's values where it is accepted; on refusal out-parameters are untouched: they hold what they held before
abbrev pub or_untouched : Reply → (before : List ℤ) → Reply
or_untouched q before = given q.number (cond (eqb q.number 0) q.values before)

-- a file, with room for as many places as a file can have
abbrev pub file_reply : (file : List ℕ) → FileReply
file_reply b = read_reply b most_places

abbrev pub count_reply : (file : List ℕ) → Reply
count_reply b = given (file_reply b).number (pos (file_reply b).count ∷ [])

-- the record of a file's sheet, into a buffer of so many bytes: the file's refusals, then 10 if it is too short; its length
unfoldable pub sheet_reply : (file : List ℕ) (size : ℕ) → Reply
sheet_reply b size =
    let r = sheet_record (file_reply b).sheet in
    cond (eqb (file_reply b).number 0)
    (in_order 1 ((leb (length r) size else-refuse NoRoom) ∷ []) (accepted (pos (length r) ∷ [])))
    (given (file_reply b).number (pos 0 ∷ []))

-- the buffer then: bytes after the record are unchanged, and on refusal all
unfoldable pub sheet_after : (file before : List ℕ) → List ℕ
sheet_after b before =
    let r = sheet_record (file_reply b).sheet in
    cond (eqb (sheet_reply b (length before)).number 0) (r ++ drop (length r) before) before

-- a place's numbers, then its name
abbrev pub place_values : Place → List ℤ
place_values p = pos p.«id» ∷ p.«latitude» ∷ p.«longitude» ∷ p.«x» ∷ p.«y» ∷ map pos p.«name»

abbrev pub place_reply : (file : List ℕ) (index : ℕ) → Reply
place_reply b k = given (place_at_reply b k).number (place_values (place_at_reply b k).place)

abbrev pub nearest_reply : (file : List ℕ) (x y reach : ℤ) → Reply
nearest_reply b x y reach = given (nearest_place_reply b x y reach).number (pos (nearest_place_reply b x y reach).position ∷ [])

-- the indexes of the places of a file within reach, where `room` numbers are lent: their count (what the numbers hold then is `positions_after`)
abbrev pub in_reach_reply : (file : List ℕ) (x y reach : ℤ) (room : ℕ) → Reply
in_reach_reply b x y reach room = let reply = positions_reply b x y reach room in given reply.number (pos reply.count ∷ [])

-- what is checked, as the sheet that it is
abbrev pub as_sheet : Result CheckedSheet Refusal → Result Sheet Refusal
as_sheet (Ok checked) = Ok checked.sheet
as_sheet (Err why) = Err why

-- the sheet whose record the bytes are: refused as the first record of a file is; then 3 where bytes follow it. A place and the end are not due first, so that these two are never found (Laws: NoPlaceFirst, NoEndFirst).
unfoldable pub first_sheet : Found → (whole : Bool) → Result Sheet Refusal
first_sheet (found.Sheet s) whole = outcome ((whole else-refuse TrailingBytes) ∷ []) (Ok s) Err
first_sheet (found.Place p) whole = Err Kind
first_sheet (found.End count) whole = Err Kind

abbrev pub first_answer : StepAnswer → (size : ℕ) → Result Sheet Refusal
first_answer (Ok advance) size = first_sheet advance.«found» (eqb advance.«next».«at» size)
first_answer (Err why) size = Err why.«refusal»

unfoldable pub sheet_in : List ℕ → Result Sheet Refusal
sheet_in b = first_answer (step_of b (start_of 0)) (length b)

-- what is answered on that sheet; its refusal comes first
abbrev pub answered : Result Sheet Refusal → (Sheet → Reply) → Reply
answered (Ok s) answer = answer s
answered (Err why) answer = refused 2 why

abbrev pub forward_reply : (sheet : List ℕ) (latitude longitude : ℤ) → Reply
forward_reply b latitude longitude = answered (sheet_in b) (λ s. forward.forward_reply s latitude longitude)

abbrev pub inverse_reply : (sheet : List ℕ) (x y : ℤ) → Reply
inverse_reply b x y = answered (sheet_in b) (λ s. inverse.inverse_reply s x y)

-- MANY POSITIONS, OR MANY POINTS, on one sheet: pairs of numbers, latitude, longitude, .. or x, y, .. Three numbers are answered to each pair: the number, and the two values
abbrev pub each_answer_of : Reply → List ℤ
each_answer_of q = pos q.number ∷ q.values

-- the answers to the first so many pairs
unfoldable pub each_answers : (answer : ℤ → ℤ → Reply) (pairs : List ℤ) (count : ℕ) → List ℤ
each_answers answer ps zero = []
each_answers answer ps (suc k) = each_answers answer ps k ++ each_answer_of (answer (get_or ps (2 * k) (pos 0)) (get_or ps (2 * k + 1) (pos 0)))

-- the refusals of the whole, after the sheet's: 12 where a first number has no second; then 10 where there is no room for three numbers to each pair
unfoldable pub each_rules : (numbers size : ℕ) → List Rule
each_rules numbers size = (eqb (numbers % 2) 0 else-refuse OutOfRange) ∷ (leb (numbers / 2) (size / 3) else-refuse NoRoom) ∷ []

-- the sheet on which the pairs are answered, or why none is
abbrev pub sheet_for_each : Result Sheet Refusal → (numbers size : ℕ) → Result Sheet Refusal
sheet_for_each (Ok s) numbers size = outcome (each_rules numbers size) (Ok s) Err
sheet_for_each (Err why) numbers size = Err why

-- the number, and what the slice of answers holds then: later ones are unchanged, and on refusal all
abbrev pub each_on : (answer : Sheet → ℤ → ℤ → Reply) → Result Sheet Refusal → (pairs before : List ℤ) → Reply
each_on answer (Ok s) ps before = accepted (each_answers (answer s) ps (length ps / 2) ++ drop (3 * (length ps / 2)) before)
each_on answer (Err why) ps before = given (number_of why) before

abbrev pub each_reply : (answer : Sheet → ℤ → ℤ → Reply) → (sheet : List ℕ) (pairs before : List ℤ) → Reply
each_reply answer b ps before = each_on answer (sheet_for_each (sheet_in b) (length ps) (length before)) ps before

abbrev pub forward_each_reply : (sheet : List ℕ) (positions before : List ℤ) → Reply
forward_each_reply = each_reply forward.forward_reply

abbrev pub inverse_each_reply : (sheet : List ℕ) (points before : List ℤ) → Reply
inverse_each_reply = each_reply inverse.inverse_reply
