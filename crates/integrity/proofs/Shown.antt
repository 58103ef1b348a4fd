-- Every place of an accepted file lies where its sheet says, and the ids rise. Assumes nothing.
use Prim.Native.Nat.{ℕ, ◌+◌, ◌<◌}
use mathlib.Core.Bool.{true}
use mathlib.Core.Path.{◌≡◌}
use mathlib.Core.List.{List, [], ◌∷◌}
use native.Mathlib.Omega.{arith}
use Rattle.refusal.specs.Rules.{all_hold}
use Rattle.refusal.proofs.InOrder.{both_hold}
use Rattle.sheet.specs.declared.Sheet.{Sheet}
use Rattle.place.specs.declared.Place.{Place}
use Rattle.place.specs.Places.{place_rules}
use Rattle.place.proofs.GoodPlaces.{own_position, above_the_last}
use Rattle.atlas_file.specs.Reading.{places_read}
use Rattle.atlas_file.specs.Writing.{places_rules}
use Rattle.integrity.specs.Integrity.{AreOwn, OwnPositions, RiseAbove, Rising, RisingIds}
use Rattle.integrity.proofs.Accepted.{list_parts, read_is_good}

are_own : (s : Sheet) (count last : ℕ) (ps : List Place) → all_hold (places_rules s count last ps) ≡ true → AreOwn s ps
unfolding places_rules
are_own s count last [] e = tt
are_own s count last (p ∷ ps) e =
    let both = both_hold (place_rules s count last p) (places_rules s (count + 1) p.«id» ps) e in
    (own_position s count last p both.0, are_own s (count + 1) p.«id» ps both.1)

rise_above : (s : Sheet) (count last : ℕ) (ps : List Place) → 0 < count → all_hold (places_rules s count last ps) ≡ true → RiseAbove last ps
unfolding places_rules
rise_above s count last [] h e = tt
rise_above s count last (p ∷ ps) h e =
    let both = both_hold (place_rules s count last p) (places_rules s (count + 1) p.«id» ps) e in
    (above_the_last s count last p h both.0, rise_above s (count + 1) p.«id» ps (omega arith) both.1)

rising : (s : Sheet) (count last : ℕ) (ps : List Place) → all_hold (places_rules s count last ps) ≡ true → Rising ps
unfolding places_rules
rising s count last [] e = tt
rising s count last (p ∷ ps) e = rise_above s (count + 1) p.«id» ps (omega arith) (both_hold (place_rules s count last p) _ e).1

pub own_positions : OwnPositions
own_positions b room e = are_own _ 0 0 (places_read b room) (list_parts _ _ (read_is_good b room e)).2

pub rising_ids : RisingIds
rising_ids b room e = rising _ 0 0 (places_read b room) (list_parts _ _ (read_is_good b room e)).2
