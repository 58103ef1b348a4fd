-- `place::is_at` meets its contract. Assumes nothing.
use mathlib.Core.Path.{◌≡◌}
use mathlib.Core.Bool.{◌&&◌}
use mathlib.Core.List.{[], ◌∷◌}
use borrow.Author.Rules.{rules}
use lib.Dec.{eqb}
use lib.IntN.{ℤ}
use mir.Facts.{to_z-of_z}
use mir.Syntax.{w32, w64}
use mir.Val.{SFits, to_z, of_z}
use Rattle.arith.proofs.Fits.{fits, any, eq_same}
use Rattle.refusal.specs.Numbers.{accepted}
use Rattle.place.specs.Places.{is_at}
use Rattle.place.specs.declared.Place.{Place}
use Rattle.place.proofs.Fields.{Typed, typed}
use Rattle.place.proofs.is_at.Goals as goal

at-is : {p : Place} {x y : ℤ} → Typed p → SFits w64 x → SFits w64 y →
    (eqb (of_z w64 x) (of_z w64 (to_z w32 (of_z w32 p.«x»))) && eqb (of_z w64 y) (of_z w64 (to_z w32 (of_z w32 p.«y»)))) ≡ is_at (accepted (x ∷ y ∷ [])) p.«x» p.«y»
at-is p fx fy = rw (to_z-of_z p.x, to_z-of_z p.y, eq_same fx (fits (any p.x) tt), eq_same fy (fits (any p.y) tt))

pub returns : goal.returns
returns c =
    let t : Typed c.args.place = typed (search rules) in
    let x : SFits w64 c.args.point.x = search rules in
    let y : SFits w64 c.args.point.y = search rules in
    rw (c.from.ensures, c.from-2.ensures) (at-is t x y)
