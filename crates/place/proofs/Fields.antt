-- What a place's type says of its fields. Assumes nothing.
use borrow.Author.Rules.{rules}
use denote.Laws.{valss}
use denote.Struct.Struct.{AreAll}
use denote.Struct.Declared.{fields}
use denote.Struct.Laws.{spells}
use lib.ListN.{length}
use mathlib.Core.Path.{◌≡◌}
use mir.Syntax.{w32}
use mir.Val.{Fits, SFits}
use Rattle.place.specs.declared.Place.{Place}
use Rattle.place.specs.contracts.Place.{the_type}
use Rattle.place.proofs.Place.TheLaws.{the_laws}

-- as the borrow checker has it, at a step `struct_told`
abbrev pub Told : Place → Type 0
Told p = AreAll (fields the_type) (the_type.to p) (valss (fields the_type) (spells the_type.parts the_laws) (the_type.to p))

pub record Typed (p : Place) : Type 0 where
  pub id : Fits w32 p.«id»
  pub latitude : SFits w32 p.«latitude»
  pub longitude : SFits w32 p.«longitude»
  pub x : SFits w32 p.«x»
  pub y : SFits w32 p.«y»
  pub name : length p.«name» ≡ 16

pub typed : {p : Place} → Told p → Typed p
typed t = record {
  id = record { fits = t.0.1 };
  latitude = record { sfits = t.1.0.1 };
  longitude = record { sfits = t.1.1.0.1 };
  x = record { sfits = t.1.1.1.0.1 };
  y = record { sfits = t.1.1.1.1.0.1 };
  name = let n = t.1.1.1.1.1.0 in search rules;
}
