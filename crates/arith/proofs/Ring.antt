-- A ring solver for ℤ, by reflection: an equation of polynomials holds where the normal form of its sides' difference, which antt computes, is zero.
-- `ring (x ∷ y ∷ []) (var 0 ⊗ (var 0 ⊕ var 1)) (var 0 ⊗ var 0 ⊕ var 0 ⊗ var 1) tt : x *ℤ (x +ℤ y) ≡ x *ℤ x +ℤ x *ℤ y`. Assumes nothing.
use mathlib.Core.Path.{◌≡◌, refl, sym, ◌∙◌, ap, ap₂}
use mathlib.Core.Bool.{Bool, true, false, ◌&&◌}
use mathlib.Core.List.{List, [], ◌∷◌, map}
use Prim.Native.Nat.{ℕ, zero, suc}
use lib.Dec.{T, eqb, eqb→eq}
use lib.IntN.{ℤ, pos, negsuc, neg_ℤ, ◌+ℤ◌, ◌-ℤ◌, ◌*ℤ◌, +ℤ_idl, +ℤ_idr, +ℤ_assoc, zero-*ℤ, *ℤ-zero}
use lib.ListN.{get_or}
use mir.Facts.{and_yes}
use Rattle.arith.proofs.Laws.{+ℤ-left-comm, *ℤ-distribˡ, *ℤ-distribʳ, *ℤ-assoc, *ℤ-left-comm, *ℤ-idˡ, *ℤ-idʳ, negℤ-*ℤ, sub_eq}

-- ---- expressions

infixl 60 ◌⊕◌ ◌⊖◌
infixl 70 ◌⊗◌
infix 80 ⊝◌
pub data Ex : Type 0 where
  var : ℕ → Ex
  num : ℤ → Ex
  ◌⊕◌ ◌⊖◌ ◌⊗◌ : Ex → Ex → Ex
  ⊝◌ : Ex → Ex

-- What an expression says of the numbers ρ. It computes to the sums and products as one writes them.
abbrev pub ev : List ℤ → Ex → ℤ
ev ρ (var i) = get_or ρ i (pos 0)
ev ρ (num z) = z
ev ρ (a ⊕ b) = ev ρ a +ℤ ev ρ b
ev ρ (a ⊖ b) = ev ρ a -ℤ ev ρ b
ev ρ (a ⊗ b) = ev ρ a *ℤ ev ρ b
ev ρ (⊝ a) = neg_ℤ (ev ρ a)

-- ---- normal forms: a number; and over one variable more, the list of its coefficients, the constant first

abbrev pub Poly : List ℤ → Type 0
Poly [] = ℤ
Poly (x ∷ xs) = List (Poly xs)

abbrev pub add_l : {A : Type 0} → (A → A → A) → List A → List A → List A
add_l f [] q = q
add_l f (a ∷ p) [] = a ∷ p
add_l f (a ∷ p) (b ∷ q) = f a b ∷ add_l f p q

abbrev pub mul_l : {A : Type 0} → (A → A → A) → (A → A → A) → A → List A → List A → List A
mul_l f g z [] q = []
mul_l f g z (a ∷ p) q = add_l f (map (g a) q) (z ∷ mul_l f g z p q)

abbrev pub all_l : {A : Type 0} → (A → Bool) → List A → Bool
all_l f [] = true
all_l f (a ∷ p) = f a && all_l f p

abbrev pub zero_p : (ρ : List ℤ) → Poly ρ
zero_p [] = pos 0
zero_p (x ∷ xs) = []

abbrev pub num_p : (ρ : List ℤ) → ℤ → Poly ρ
num_p [] c = c
num_p (x ∷ xs) c = num_p xs c ∷ []

abbrev pub var_p : (ρ : List ℤ) → ℕ → Poly ρ
var_p [] i = pos 0
var_p (x ∷ xs) zero = zero_p xs ∷ num_p xs (pos 1) ∷ []
var_p (x ∷ xs) (suc i) = var_p xs i ∷ []

abbrev pub add_p : (ρ : List ℤ) → Poly ρ → Poly ρ → Poly ρ
add_p [] p q = p +ℤ q
add_p (x ∷ xs) p q = add_l (add_p xs) p q

abbrev pub scale_p : (ρ : List ℤ) → ℤ → Poly ρ → Poly ρ
scale_p [] k p = k *ℤ p
scale_p (x ∷ xs) k p = map (scale_p xs k) p

abbrev pub mul_p : (ρ : List ℤ) → Poly ρ → Poly ρ → Poly ρ
mul_p [] p q = p *ℤ q
mul_p (x ∷ xs) p q = mul_l (add_p xs) (mul_p xs) (zero_p xs) p q

abbrev pub is_zero : ℤ → Bool
is_zero (pos n) = eqb n 0
is_zero (negsuc n) = false

abbrev pub zero_b : (ρ : List ℤ) → Poly ρ → Bool
zero_b [] p = is_zero p
zero_b (x ∷ xs) p = all_l (zero_b xs) p

abbrev pub norm : (ρ : List ℤ) → Ex → Poly ρ
norm ρ (var i) = var_p ρ i
norm ρ (num z) = num_p ρ z
norm ρ (a ⊕ b) = add_p ρ (norm ρ a) (norm ρ b)
norm ρ (a ⊖ b) = add_p ρ (norm ρ a) (scale_p ρ (negsuc 0) (norm ρ b))
norm ρ (a ⊗ b) = mul_p ρ (norm ρ a) (norm ρ b)
norm ρ (⊝ a) = scale_p ρ (negsuc 0) (norm ρ a)

-- ---- what a normal form says, by Horner's rule

abbrev pub hor : {A : Type 0} → (A → ℤ) → ℤ → List A → ℤ
hor e x [] = pos 0
hor e x (a ∷ p) = e a +ℤ x *ℤ hor e x p

abbrev pub ev_p : (ρ : List ℤ) → Poly ρ → ℤ
ev_p [] p = p
ev_p (x ∷ xs) p = hor (ev_p xs) x p

shuffle : (a b c d : ℤ) → (a +ℤ b) +ℤ (c +ℤ d) ≡ (a +ℤ c) +ℤ (b +ℤ d)
shuffle a b c d = +ℤ_assoc a b (c +ℤ d) ∙ ap (λ z. a +ℤ z) (+ℤ-left-comm b c d) ∙ sym (+ℤ_assoc a c (b +ℤ d))

module _ {A : Type 0} (e : A → ℤ) (x : ℤ) (f : A → A → A) (f-ok : (a b : A) → e (f a b) ≡ e a +ℤ e b) where
  pub add_l_ok : (p q : List A) → hor e x (add_l f p q) ≡ hor e x p +ℤ hor e x q
  add_l_ok [] q = sym (+ℤ_idl (hor e x q))
  add_l_ok (a ∷ p) [] = sym (+ℤ_idr (hor e x (a ∷ p)))
  add_l_ok (a ∷ p) (b ∷ q) =
      ap₂ (λ u v. u +ℤ x *ℤ v) (f-ok a b) (add_l_ok p q)
      ∙ ap (λ u. (e a +ℤ e b) +ℤ u) (*ℤ-distribˡ x (hor e x p) (hor e x q))
      ∙ shuffle (e a) (e b) (x *ℤ hor e x p) (x *ℤ hor e x q)

pub map_ok : {A : Type 0} (e : A → ℤ) (x k : ℤ) (g : A → A) → ((a : A) → e (g a) ≡ k *ℤ e a) → (p : List A) → hor e x (map g p) ≡ k *ℤ hor e x p
map_ok e x k g g-ok [] = sym (*ℤ-zero k)
map_ok e x k g g-ok (a ∷ p) =
    ap₂ (λ u v. u +ℤ x *ℤ v) (g-ok a) (map_ok e x k g g-ok p)
    ∙ ap (λ u. k *ℤ e a +ℤ u) (*ℤ-left-comm x k (hor e x p))
    ∙ sym (*ℤ-distribˡ k (e a) (x *ℤ hor e x p))

module _ {A : Type 0} (e : A → ℤ) (x : ℤ) (f g : A → A → A) (z : A) (f-ok : (a b : A) → e (f a b) ≡ e a +ℤ e b) (g-ok : (a b : A) → e (g a b) ≡ e a *ℤ e b) (z-ok : e z ≡ pos 0) where
  mul_l_ok : (p q : List A) → hor e x (mul_l f g z p q) ≡ hor e x p *ℤ hor e x q
  mul_l_ok [] q = sym (zero-*ℤ (hor e x q))
  mul_l_ok (a ∷ p) q =
      add_l_ok e x f f-ok (map (g a) q) (z ∷ mul_l f g z p q)
      ∙ ap₂ (λ u v. u +ℤ v) (map_ok e x (e a) (g a) (g-ok a) q) (ap₂ (λ u v. u +ℤ x *ℤ v) z-ok (mul_l_ok p q) ∙ +ℤ_idl (x *ℤ (hor e x p *ℤ hor e x q)))
      ∙ ap (λ u. e a *ℤ hor e x q +ℤ u) (sym (*ℤ-assoc x (hor e x p) (hor e x q)))
      ∙ sym (*ℤ-distribʳ (e a) (x *ℤ hor e x p) (hor e x q))

zero_p_ok : (ρ : List ℤ) → ev_p ρ (zero_p ρ) ≡ pos 0
zero_p_ok [] = refl
zero_p_ok (x ∷ xs) = refl

num_p_ok : (ρ : List ℤ) (c : ℤ) → ev_p ρ (num_p ρ c) ≡ c
num_p_ok [] c = refl
num_p_ok (x ∷ xs) c = ap₂ (λ u v. u +ℤ v) (num_p_ok xs c) (*ℤ-zero x) ∙ +ℤ_idr c

var_p_ok : (ρ : List ℤ) (i : ℕ) → ev_p ρ (var_p ρ i) ≡ get_or ρ i (pos 0)
var_p_ok [] i = refl
var_p_ok (x ∷ xs) zero =
    ap₂ (λ u v. u +ℤ x *ℤ v) (zero_p_ok xs) (num_p_ok (x ∷ xs) (pos 1))
    ∙ +ℤ_idl (x *ℤ pos 1) ∙ *ℤ-idʳ x
var_p_ok (x ∷ xs) (suc i) = ap₂ (λ u v. u +ℤ v) (var_p_ok xs i) (*ℤ-zero x) ∙ +ℤ_idr (get_or xs i (pos 0))

add_p_ok : (ρ : List ℤ) (p q : Poly ρ) → ev_p ρ (add_p ρ p q) ≡ ev_p ρ p +ℤ ev_p ρ q
add_p_ok [] p q = refl
add_p_ok (x ∷ xs) p q = add_l_ok (ev_p xs) x (add_p xs) (add_p_ok xs) p q

scale_p_ok : (ρ : List ℤ) (k : ℤ) (p : Poly ρ) → ev_p ρ (scale_p ρ k p) ≡ k *ℤ ev_p ρ p
scale_p_ok [] k p = refl
scale_p_ok (x ∷ xs) k p = map_ok (ev_p xs) x k (scale_p xs k) (scale_p_ok xs k) p

mul_p_ok : (ρ : List ℤ) (p q : Poly ρ) → ev_p ρ (mul_p ρ p q) ≡ ev_p ρ p *ℤ ev_p ρ q
mul_p_ok [] p q = refl
mul_p_ok (x ∷ xs) p q = mul_l_ok (ev_p xs) x (add_p xs) (mul_p xs) (zero_p xs) (add_p_ok xs) (mul_p_ok xs) (zero_p_ok xs) p q

minus : (z : ℤ) → negsuc 0 *ℤ z ≡ neg_ℤ z
minus z = negℤ-*ℤ (pos 1) z ∙ ap neg_ℤ (*ℤ-idˡ z)

pub norm_ok : (ρ : List ℤ) (a : Ex) → ev_p ρ (norm ρ a) ≡ ev ρ a
norm_ok ρ (var i) = var_p_ok ρ i
norm_ok ρ (num z) = num_p_ok ρ z
norm_ok ρ (a ⊕ b) = add_p_ok ρ (norm ρ a) (norm ρ b) ∙ ap₂ (λ u v. u +ℤ v) (norm_ok ρ a) (norm_ok ρ b)
norm_ok ρ (a ⊖ b) = add_p_ok ρ (norm ρ a) (scale_p ρ (negsuc 0) (norm ρ b)) ∙ ap₂ (λ u v. u +ℤ v) (norm_ok ρ a) (scale_p_ok ρ (negsuc 0) (norm ρ b) ∙ minus (ev_p ρ (norm ρ b)) ∙ ap neg_ℤ (norm_ok ρ b))
norm_ok ρ (a ⊗ b) = mul_p_ok ρ (norm ρ a) (norm ρ b) ∙ ap₂ (λ u v. u *ℤ v) (norm_ok ρ a) (norm_ok ρ b)
norm_ok ρ (⊝ a) = scale_p_ok ρ (negsuc 0) (norm ρ a) ∙ minus (ev_p ρ (norm ρ a)) ∙ ap neg_ℤ (norm_ok ρ a)

-- ---- the test for zero

is_zero_ok : (z : ℤ) → T (is_zero z) → z ≡ pos 0
is_zero_ok (pos n) t = ap pos (eqb→eq n 0 t)
is_zero_ok (negsuc n) t = absurd t

all_l_ok : {A : Type 0} (e : A → ℤ) (x : ℤ) (f : A → Bool) → ((a : A) → T (f a) → e a ≡ pos 0) → (p : List A) → T (all_l f p) → hor e x p ≡ pos 0
all_l_ok e x f ok [] t = refl
all_l_ok e x f ok (a ∷ p) t =
    let s = and_yes (f a) (all_l f p) t in
    ap₂ (λ u v. u +ℤ x *ℤ v) (ok a s.0) (all_l_ok e x f ok p s.1) ∙ ap (λ u. pos 0 +ℤ u) (*ℤ-zero x)

zero_b_ok : (ρ : List ℤ) (p : Poly ρ) → T (zero_b ρ p) → ev_p ρ p ≡ pos 0
zero_b_ok [] p t = is_zero_ok p t
zero_b_ok (x ∷ xs) p t = all_l_ok (ev_p xs) x (zero_b xs) (zero_b_ok xs) p t

-- ---- the solver
pub ring : (ρ : List ℤ) (a b : Ex) → T (zero_b ρ (norm ρ (a ⊖ b))) → ev ρ a ≡ ev ρ b
ring ρ a b t = sub_eq (ev ρ a) (ev ρ b) (sym (norm_ok ρ (a ⊖ b)) ∙ zero_b_ok ρ (norm ρ (a ⊖ b)) t)
