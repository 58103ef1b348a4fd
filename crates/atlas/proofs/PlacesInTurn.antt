-- The check of places in turn, by one place more. Assumes nothing.
use mathlib.Core.Path.{◌≡◌, sym, ap, ◌∙◌}
use mathlib.Core.List.{List, [], ◌∷◌, ◌++◌}
use Prim.Native.Nat.{ℕ, ◌+◌, ◌<◌}
use native.Mathlib.Numerals.{add-one}
use lib.ListN.{length, get_or, drop}
use lib.Seq.{drop-cons}
use Rattle.refusal.specs.declared.Refusal.{Refusal}
use Rattle.refusal.specs.Numbers.{Reply, accepted, refused}
use Rattle.refusal.specs.Rules.{in_order}
use Rattle.refusal.proofs.InOrder.{others_decide, refused-first}
use Rattle.sheet.specs.declared.Sheet.{Sheet}
use Rattle.std.specs.Prelude.{Result, Ok, Err}
use Rattle.sheet.specs.Sheets.{reply_of}
use Rattle.place.specs.declared.Place.{Place}
use Rattle.place.specs.Places.{blank_place, place_rules, place_reply}
use Rattle.atlas_file.specs.Writing.{places_rules}
use Rattle.atlas_file.proofs.ByVerdict.{all_hold_lem}

-- what the places come to, after `count` places, the last with the id `last`
abbrev pub in_turn : Sheet → (count last : ℕ) → List Place → Reply
in_turn s count last ps = in_order 0 (places_rules s count last ps) (accepted [])

-- the place at k of a table, and the verdict on it
module _ (s : Sheet) (ps : List Place) (k last : ℕ) (p : Place) (v : Result Unit Refusal) (inside : k < length ps) (is : p ≡ get_or ps k blank_place) (e : reply_of v ≡ place_reply s k last p) where
  abbrev others : List Place
  others = drop (k + 1) ps

  taken : in_turn s k last (drop k ps) ≡ in_order 0 (place_rules s k last p ++ places_rules s (k + 1) p.«id» others) (accepted [])
  unfolding places_rules
  taken = ap (in_turn s k last) (drop-cons ps k blank_place inside) ∙ (λ i. in_turn s k last (sym is i ∷ drop (sym (add-one k) i) ps))

  pub good_turn : v ≡ (Ok tt) → in_turn s (k + 1) p.«id» others ≡ in_turn s k last (drop k ps)
  good_turn g = sym (taken ∙ others_decide 0 (place_rules s k last p) _ (accepted []) (all_hold_lem (place_rules s k last p) v e g))

  pub bad_turn : (r : Refusal) → v ≡ Err r → refused 0 r ≡ in_turn s k last (drop k ps)
  bad_turn r f = refused-first 0 0 (place_rules s k last p) _ [] (accepted []) r (rw f at e) ∙ sym taken
