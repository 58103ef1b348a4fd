-- What holds of a place that is not refused. Assumes nothing.
use mathlib.Core.Bool.{false}
use mathlib.Core.Path.{◌≡◌, ◌∙◌}
use mathlib.Core.List.{[], ◌∷◌}
use native.Mathlib.Omega.{arith}
use borrow.Author.Tests.{eqb-true, ltb-true, ne_eqb}
use lib.Dec.{eqb}
use Rattle.arith.proofs.Parts.{linear}
use Rattle.arith.proofs.Tests.{said, facts}
use Rattle.refusal.specs.Numbers.{accepted}
use Rattle.refusal.proofs.InOrder.{each_holds}
use Rattle.conic.specs.Conic.{x_of, y_of}
use Rattle.conic.proofs.Answered.{not_refused_point}
use Rattle.place.specs.Places.{place_rules_at, place_rules}
use Rattle.place.specs.Laws.{OwnPosition, AboveTheLast, HasName}
use Rattle.place.proofs.NameLaws.{name-holds}

pub own_position : OwnPosition
unfolding place_rules place_rules_at
own_position s count last p e =
    let h = (each_holds (place_rules s count last p) e).1 in
    let found = not_refused_point s p.«latitude» p.«longitude» (eqb-true _ _ h.0) in
    let at = facts (rw found at h.1.0) (search said depth 9) in
    let x-is : x_of s p.«latitude» p.«longitude» ≡ p.«x» = omega linear in
    let y-is : y_of s p.«latitude» p.«longitude» ≡ p.«y» = omega linear in
    found ∙ (λ i. accepted (x-is i ∷ y-is i ∷ []))

pub above_the_last : AboveTheLast
unfolding place_rules place_rules_at
above_the_last s count last p h e =
    let not_first : eqb count 0 ≡ false = ne_eqb count 0 (λ (z : count ≡ 0). omega arith) in
    ltb-true _ _ (rw not_first at (each_holds (place_rules s count last p) e).0)

pub has_name : HasName
unfolding place_rules place_rules_at
has_name s count last p e = name-holds p.«name» (each_holds (place_rules s count last p) e).1.1.1.0
