-- The ring solver with the expressions found by `search`: `ring! (x ∷ y ∷ []) (search quote depth 40) tt`, with every variable of the equation in the list. Assumes nothing.
use mathlib.Core.Path.{◌≡◌, refl, sym, ◌∙◌, ap, ap₂}
use mathlib.Core.List.{List, ◌∷◌}
use Prim.Native.Nat.{ℕ, suc, ◌+◌, ◌*◌}
use lib.Dec.{T}
use lib.IntN.{ℤ, pos, negsuc, neg_ℤ, ◌+ℤ◌, ◌*ℤ◌}
use lib.ListN.{get_or}
use Rattle.arith.proofs.Ring.{Ex, var, num, ◌⊕◌, ◌⊖◌, ◌⊗◌, ⊝◌, ev, norm, zero_b, ring}

-- x stands in ρ, at a place
pub record Var (ρ : List ℤ) (x : ℤ) : Type 0 where
  pub ix : ℕ
  pub at : get_or ρ ix (pos 0) ≡ x

abbrev pub here : {ρ : List ℤ} {x : ℤ} → Var (x ∷ ρ) x
here = record { ix = 0; at = refl }

abbrev pub there : {ρ : List ℤ} {x y : ℤ} → Var ρ x → Var (y ∷ ρ) x
there v = record { ix = suc v.ix; at = v.at }

-- an expression that says z of ρ
pub record Quote (ρ : List ℤ) (z : ℤ) : Type 0 where
  pub ex : Ex
  pub ok : ev ρ ex ≡ z

abbrev pub q_var : {ρ : List ℤ} {x : ℤ} → Var ρ x → Quote ρ x
q_var v = record { ex = var v.ix; ok = v.at }

abbrev pub q_pos : (n : ℕ) {ρ : List ℤ} → Quote ρ (pos n)
q_pos n = record { ex = num (pos n); ok = refl }

-- `pos a +ℤ pos b` computes to `pos (a + b)`, so a sum and a product of ℕ are taken apart too
abbrev pub q_pos_add : {ρ : List ℤ} (a b : ℕ) → Quote ρ (pos a) → Quote ρ (pos b) → Quote ρ (pos (a + b))
q_pos_add a b p q = record { ex = p.ex ⊕ q.ex; ok = ap₂ (λ u v. u +ℤ v) p.ok q.ok }

abbrev pub q_pos_mul : {ρ : List ℤ} (a b : ℕ) → Quote ρ (pos a) → Quote ρ (pos b) → Quote ρ (pos (a * b))
q_pos_mul a b p q = record { ex = p.ex ⊗ q.ex; ok = ap₂ (λ u v. u *ℤ v) p.ok q.ok }

abbrev pub q_negsuc : {ρ : List ℤ} {n : ℕ} → Quote ρ (negsuc n)
q_negsuc {n = n} = record { ex = num (negsuc n); ok = refl }

abbrev pub q_add : {ρ : List ℤ} {x y : ℤ} → Quote ρ x → Quote ρ y → Quote ρ (x +ℤ y)
q_add a b = record { ex = a.ex ⊕ b.ex; ok = ap₂ (λ u v. u +ℤ v) a.ok b.ok }

abbrev pub q_mul : {ρ : List ℤ} {x y : ℤ} → Quote ρ x → Quote ρ y → Quote ρ (x *ℤ y)
q_mul a b = record { ex = a.ex ⊗ b.ex; ok = ap₂ (λ u v. u *ℤ v) a.ok b.ok }

abbrev pub q_neg : {ρ : List ℤ} {x : ℤ} → Quote ρ x → Quote ρ (neg_ℤ x)
q_neg a = record { ex = ⊝ a.ex; ok = ap neg_ℤ a.ok }

-- both sides of a statement
pub record Both (ρ : List ℤ) (x y : ℤ) : Type 0 where
  pub left : Quote ρ x
  pub right : Quote ρ y

abbrev pub q_both : {ρ : List ℤ} {x y : ℤ} → Quote ρ x → Quote ρ y → Both ρ x y
q_both a b = record { left = a; right = b }

-- what stands in ρ is a variable, also a product or a quotient; but `pos n` is read as a numeral, whether it stands in ρ or not
pub ruleset quote = (q_both, q_var, here, there, q_add, q_mul, q_neg, q_pos, q_negsuc)

-- the same for natural numbers `pos n` that are variables: no numeral is read, but one that is listed, `search (quote-nat, q-pos 5)`
pub ruleset quote-nat = (q_both, q_var, here, there, q_add, q_mul, q_neg, q_pos_add, q_pos_mul)

pub ring! : (ρ : List ℤ) {x y : ℤ} (q : Both ρ x y) → T (zero_b ρ (norm ρ (q.left.ex ⊖ q.right.ex))) → x ≡ y
ring! ρ q t = sym q.left.ok ∙ ring ρ q.left.ex q.right.ex t ∙ q.right.ok
