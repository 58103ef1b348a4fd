-- What the functions give and store, by the replies of the engine's own contracts.
use Rattle.std.specs.Prelude.{ℕ, Bool, ◌&&◌, cond, List, [], ◌∷◌, map, leb, ℤ, pos}
use Rattle.arith.specs.Bounds.{is_within, size_up_to}
use Rattle.refusal.specs.Numbers.{Reply}
use Rattle.trig.specs.Trig.{offered}
use Rattle.cone.specs.Cone.{offset_at}
use Rattle.sheet.specs.declared.Sheet.{Sheet}
use Rattle.sheet.specs.Sheets.{f1, f2, f0, m0, fs, fn, w, n, g}
use Rattle.place.specs.declared.Place.{Place}
use Rattle.atlas_file.specs.declared.State.{State}
use Rattle.atlas_file.specs.Steps.{StepReply}
use Rattle.atlas_file.specs.Reading.{FileReply}
use Rattle.lookup.specs.Lookups.{LookupReply}

-- a sheet by its nine numbers, in the order of its record, and back
abbrev pub sheet_with : (f1 f2 f0 m0 fs fn : ℤ) (w n : ℕ) (g : ℤ) → Sheet
sheet_with f1 f2 f0 m0 fs fn w n g = record {
  first_parallel = f1;
  second_parallel = f2;
  origin_latitude = f0;
  central_meridian = m0;
  south_edge = fs;
  north_edge = fn;
  half_width = w;
  cone_constant = n;
  radius_constant = g;
}

unfoldable pub sheet_numbers : Sheet → List ℤ
sheet_numbers s = f1 s ∷ f2 s ∷ f0 s ∷ m0 s ∷ fs s ∷ fn s ∷ w s ∷ n s ∷ g s ∷ []

-- a state by its parts
abbrev pub state_with : (at : ℕ) (sheet_read : Bool) → Sheet → (count last_id room : ℕ) → State
state_with at sheet_read s count last_id room = record { «at» = at; sheet_read = sheet_read; «sheet» = s; «count» = count; last_id = last_id; «room» = room }

-- a state's numbers, without its sheet
unfoldable pub state_numbers : State → List ℕ
state_numbers s = s.«at» ∷ cond s.sheet_read 1 0 ∷ s.«count» ∷ s.last_id ∷ s.«room» ∷ []

-- a place's numbers, without its name
unfoldable pub place_numbers : Place → List ℤ
place_numbers p = pos p.«id» ∷ p.«latitude» ∷ p.«longitude» ∷ p.«x» ∷ p.«y» ∷ []

-- the number that is given and the values that are stored, as a reply
abbrev pub reply : ℕ → List ℤ → Reply
reply number values = record { number = number; values = values }

-- values that are stored unsigned
abbrev pub wholes : List ℕ → List ℤ
wholes values = map pos values

-- the offset of a map point is answered for n up to ONE, w from 1 unit to 60 degrees, x and v as cone's IsX and IsV have them
unfoldable pub offset_taken : (n : ℕ) (x v : ℤ) (w : ℕ) → Bool
offset_taken n x v w = (leb n 1073741824 && (leb 1 w && leb w 60000000)) && (size_up_to 536870912 x && is_within (pos 1) (pos 805306368) v)

-- the offset by document 01's halving, 12 outside
abbrev pub offset_reply : (n : ℕ) (x v : ℤ) (w : ℕ) → Reply
offset_reply n x v w = offered (offset_taken n x v w) (offset_at (pos n) x v (pos w))

-- What is given and stored of a file: the number; the offset and the count; the sheet's numbers.
pub record FileOut : Type 0 where
  pub number : ℕ
  pub numbers : List ℕ
  pub sheet : List ℤ

abbrev pub file_out : (number : ℕ) (numbers : List ℕ) (sheet : List ℤ) → FileOut
file_out number numbers sheet = record { number = number; numbers = numbers; sheet = sheet }

abbrev pub file_out_of : FileReply → FileOut
file_out_of q = file_out q.number (q.offset ∷ q.count ∷ []) (sheet_numbers q.sheet)

-- Of a lookup: the number; the offset and the position; the place's numbers and its name.
pub record LookupOut : Type 0 where
  pub number : ℕ
  pub numbers : List ℕ
  pub place : List ℤ
  pub name : List ℕ

abbrev pub lookup_out : (number : ℕ) (numbers : List ℕ) (place : List ℤ) (name : List ℕ) → LookupOut
lookup_out number numbers place name = record { number = number; numbers = numbers; place = place; name = name }

abbrev pub lookup_out_of : LookupReply → LookupOut
lookup_out_of q = lookup_out q.number (q.offset ∷ q.position ∷ []) (place_numbers q.place) q.place.«name»

-- Of a step: the number; the offset, which record it is and the end's count; the sheet and the place that were found; the state after it.
pub record StepOut : Type 0 where
  pub number : ℕ
  pub found : List ℕ
  pub sheet : List ℤ
  pub place : List ℤ
  pub name : List ℕ
  pub next : List ℕ
  pub next_sheet : List ℤ

abbrev pub step_out : (number : ℕ) (found : List ℕ) (sheet place : List ℤ) (name next : List ℕ) (next_sheet : List ℤ) → StepOut
step_out number found sheet place name next next_sheet =
    record { number = number; found = found; sheet = sheet; place = place; name = name; next = next; next_sheet = next_sheet }

abbrev pub step_out_of : StepReply → StepOut
step_out_of q =
    step_out q.number (q.offset ∷ q.which ∷ q.count ∷ []) (sheet_numbers q.sheet) (place_numbers q.place) q.place.«name»
    (state_numbers q.next) (sheet_numbers q.next.«sheet»)
