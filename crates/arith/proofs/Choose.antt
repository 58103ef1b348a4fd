-- The two outcomes of a test: what holds of both holds of a value that it chooses, and what follows from both holds. Assumes nothing.
use mathlib.Core.Path.{◌≡◌, refl}
use mathlib.Core.Bool.{Bool, true, false, cond}

pub choose : {A : Type 0} (P : A → Type 0) (c : Bool) (x y : A) → (c ≡ true → P x) → (c ≡ false → P y) → P (cond c x y)
choose P true x y f g = f refl
choose P false x y f g = g refl

pub by_test : {P : Type 0} (c : Bool) → (c ≡ true → P) → (c ≡ false → P) → P
by_test true f g = f refl
by_test false f g = g refl

-- a match on a test, as a choice
pub as_choice : {A : Type 0} (c : Bool) (x y : A) → elim c [ true ↦ x | false ↦ y ] ≡ cond c x y
as_choice true x y = refl
as_choice false x y = refl
