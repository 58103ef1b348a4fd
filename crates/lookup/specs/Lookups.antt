-- Document 01, 'The atlas file' and 'Taps', for callers with a file's bytes: the place at a position of the file, and the place nearest to a tap.
use Rattle.std.specs.Prelude.{ℕ, cond, List, [], ◌∷◌, length, get_or, eqb, ltb, ℤ, pos, nat_abs, Result, Ok, Err}
use Rattle.refusal.specs.declared.Refusal.TheVariants.{OutOfRange}
use Rattle.refusal.specs.Numbers.{number_of}
use Rattle.refusal.specs.Rules.{◌else-refuse◌, outcome}
use Rattle.place.specs.declared.Place.{Place}
use Rattle.place.specs.Places.{blank_place}
use Rattle.nearest.specs.Taps.{nearest_reply}
use Rattle.atlas_file.specs.declared.reading.FileRefusal.{FileRefusal}
use Rattle.atlas_file.specs.Steps.{most_places}
use Rattle.atlas_file.specs.Reading.{read_reply, places_read}
use Rattle.lookup.specs.declared.Found.{Found}

-- What comes back of a lookup: the number of the refusal (0 where a place is found), the offset, the place's position in the file and the place.
pub record LookupReply : Type 0 where
  pub number : ℕ
  pub offset : ℕ
  pub position : ℕ
  pub place : Place

-- the place that was found, and its position
abbrev pub found_reply : (position : ℕ) → Place → LookupReply
found_reply k p = record { number = 0; offset = 0; position = k; place = p }

-- a refusal returns its number and the offset, and zeros for the rest
abbrev pub refused_reply : (number offset : ℕ) → LookupReply
refused_reply n offset = record { number = n; offset = offset; position = 0; place = blank_place }

-- the number and the values that an answer stands for
abbrev pub lookup_reply_of : Result Found FileRefusal → LookupReply
lookup_reply_of (Ok found) = found_reply found.«position» found.«place»
lookup_reply_of (Err why) = refused_reply (number_of why.«refusal») why.«offset»

-- what is asked of the places of a file, once the file is accepted; else its refusal and the offset
abbrev pub in_file : (b : List ℕ) → (List Place → LookupReply) → LookupReply
in_file b answer =
    let file = read_reply b most_places in
    cond (eqb file.number 0) (answer (places_read b most_places)) (refused_reply file.number file.offset)

-- the place at a position, counted from 0; 12 if there is none
unfoldable pub place_among : (position : ℕ) → List Place → LookupReply
place_among k ps = outcome ((ltb k (length ps) else-refuse OutOfRange) ∷ []) (found_reply k (get_or ps k blank_place)) (λ why. refused_reply (number_of why) 0)

unfoldable pub place_at_reply : (b : List ℕ) (position : ℕ) → LookupReply
place_at_reply b k = in_file b (place_among k)

-- the place nearest to a tap: the reply to the tap has the number and, as its one value, the place's position
unfoldable pub nearest_among : (x y reach : ℤ) → List Place → LookupReply
nearest_among x y reach ps =
    let reply = nearest_reply ps x y reach in
    let k = nat_abs (get_or reply.values 0 (pos 0)) in
    cond (eqb reply.number 0) (found_reply k (get_or ps k blank_place)) (refused_reply reply.number 0)

unfoldable pub nearest_place_reply : (b : List ℕ) (x y reach : ℤ) → LookupReply
nearest_place_reply b x y reach = in_file b (nearest_among x y reach)
