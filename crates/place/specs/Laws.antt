-- What a name is, and what holds of a place that is not refused. Each law is proved in proofs/, in the file that its comment names.
use Rattle.std.specs.Prelude.{ℕ, ◌-◌, ◌≤◌, ◌<◌, true, ◌≡◌, List, [], ◌∷◌, ◌++◌, get_or, length, replicate}
use Rattle.refusal.specs.Numbers.{accepted}
use Rattle.refusal.specs.Rules.{all_hold}
use Rattle.sheet.specs.declared.Sheet.{Sheet}
use Rattle.conic.specs.Conic.{forward_reply}
use Rattle.place.specs.declared.Place.{Place}
use Rattle.place.specs.Names.{is_printable, is_name}
use Rattle.place.specs.Places.{place_rules}

-- a name is 1 to 16 bytes of value 32 to 126, then zeros, 16 bytes in all; and back (NameLaws)
pub record IsName (bs : List ℕ) : Type 0 where
  pub text : List ℕ
  pub least : 1 ≤ length text
  pub most : length text ≤ 16
  pub printable : (i : ℕ) → i < length text → is_printable (get_or text i 0) ≡ true
  pub filled : bs ≡ text ++ replicate (16 - length text) 0

abbrev pub NameHolds : Type 0
NameHolds = (bs : List ℕ) → is_name bs ≡ true → IsName bs

abbrev pub HoldsName : Type 0
HoldsName = (bs : List ℕ) → IsName bs → is_name bs ≡ true

-- a place that is not refused lies where its sheet says: globe to map gives its x and y, not a unit off (GoodPlaces)
abbrev pub IsOwn : Sheet → Place → Type 0
IsOwn s p = forward_reply s p.«latitude» p.«longitude» ≡ accepted (p.«x» ∷ p.«y» ∷ [])

abbrev pub OwnPosition : Type 0
OwnPosition = (s : Sheet) (count last : ℕ) (p : Place) → all_hold (place_rules s count last p) ≡ true → IsOwn s p

-- its id is above the last, unless it is the first (GoodPlaces)
abbrev pub AboveTheLast : Type 0
AboveTheLast = (s : Sheet) (count last : ℕ) (p : Place) → 0 < count → all_hold (place_rules s count last p) ≡ true → last < p.«id»

-- its name is a name (GoodPlaces)
abbrev pub HasName : Type 0
HasName = (s : Sheet) (count last : ℕ) (p : Place) → all_hold (place_rules s count last p) ≡ true → IsName p.«name»
