-- Document 01, 'The atlas file' and 'Numbers that come back': when a place is refused, with 6, 7, 8 or 14.
use Rattle.std.specs.Prelude.{ℕ, Bool, ◌&&◌, ◌||◌, List, [], ◌∷◌, get_or, replicate, eqb, ltb, ℤ, pos}
use Rattle.arith.specs.Bounds.{is_within}
use Rattle.refusal.specs.declared.Refusal.TheVariants.{IdOrder, PlaceOffSheet, PlacePosition, Name}
use Rattle.refusal.specs.Numbers.{Reply, accepted}
use Rattle.refusal.specs.Rules.{Rule, ◌else-refuse◌, in_order}
use Rattle.sheet.specs.declared.Sheet.{Sheet}
use Rattle.conic.specs.Conic.{forward_reply}
use Rattle.place.specs.declared.Place.{Place}
use Rattle.place.specs.Names.{is_name}

-- zeros, where there is no place
unfoldable pub blank_place : Place
blank_place = record { «id» = 0; «latitude» = pos 0; «longitude» = pos 0; «x» = pos 0; «y» = pos 0; «name» = replicate 16 0 }

-- strictly rising ids (the first may be 0): the id is above the last, or the place is the first
abbrev pub rises : (count last id : ℕ) → Bool
rises count last id = eqb count 0 || ltb last id

-- x, y are exactly those of globe to map's reply: between x and x, and between y and y
abbrev pub is_at : Reply → (x y : ℤ) → Bool
is_at position x y =
    let values = position.values in
    is_within x x (get_or values 0 (pos 0)) && is_within y y (get_or values 1 (pos 0))

-- 6 id not above the last; 7 place out of range or off the sheet: globe to map refuses it, also for its sheet; 8 x, y not its own; 14 name.
-- `position` is what globe to map gives for its latitude and longitude, `count` places stand before it, the last with the id `last`.
unfoldable pub place_rules_at : (position : Reply) (count last : ℕ) → Place → List Rule
place_rules_at position count last p =
    (rises count last p.«id» else-refuse IdOrder)
    ∷ (eqb position.number 0 else-refuse PlaceOffSheet)
    ∷ (is_at position p.«x» p.«y» else-refuse PlacePosition)
    ∷ (is_name p.«name» else-refuse Name)
    ∷ []

unfoldable pub place_rules : Sheet → (count last : ℕ) → Place → List Rule
place_rules s count last p = place_rules_at (forward_reply s p.«latitude» p.«longitude») count last p

-- what the check of a place comes to
abbrev pub place_reply : Sheet → (count last : ℕ) → Place → Reply
place_reply s count last p = in_order 0 (place_rules s count last p) (accepted [])
