-- A polynomial in one variable is not negative on an interval, shown piece by piece: a test that antt computes.
-- On the piece from c - w to c + w the polynomial is p(c + t) with |t| ≤ w, and its constant term is at least what the others can take away.
-- `sweep (pos 0) (replicate 8 100) (search quote depth 40) tt h k : a ≤ℤ b`, for x between 0 and 1600: eight pieces of radius 100. Assumes nothing.
use mathlib.Core.Path.{◌≡◌, refl, ◌∙◌, ap, subst, subst₂}
use mathlib.Core.Bool.{Bool, true, ◌&&◌}
use mathlib.Core.List.{List, [], ◌∷◌, map}
use mathlib.Core.Logic.{⊎_elim}
use Prim.Native.Nat.{ℕ, ◌+◌, ◌*◌, ◌≤◌}
use native.Mathlib.Nat.{mul-le-mul}
use native.Mathlib.Omega.{arith}
use lib.Dec.{T}
use mir.Facts.{and_yes}
use lib.IntN.{ℤ, pos, nat_abs, ◌+ℤ◌, ◌-ℤ◌, ◌*ℤ◌}
use lib.Signed.{le_z, ◌≤ℤ◌, le_z_yes}
use Rattle.arith.proofs.Ring.{◌⊖◌, norm, add_l, hor, norm_ok, add_l_ok, map_ok}
use Rattle.arith.proofs.Quote.{Both, ring!, quote}
use Rattle.arith.proofs.Parts.{add_parts, sub_parts, neg_parts, linear}
use Rattle.arith.proofs.Order.{≤ℤ-total, abs-*, abs-+, abs_parts, abs_size}
use Rattle.arith.proofs.Cert.{le_by}

-- the value at x of the polynomial with the coefficients p, the constant first
abbrev pub at : List ℤ → ℤ → ℤ
at p x = hor (λ a. a) x p

-- the coefficients of p(c + t) in t
abbrev pub shift : ℤ → List ℤ → List ℤ
shift c [] = []
shift c (a ∷ p) = add_l ◌+ℤ◌ (a ∷ []) (add_l ◌+ℤ◌ (map (λ b. c *ℤ b) (shift c p)) (pos 0 ∷ shift c p))

shift_ok : (c t : ℤ) (p : List ℤ) → at (shift c p) t ≡ at p (c +ℤ t)
shift_ok c t [] = refl
shift_ok c t (a ∷ p) =
    let q = shift c p in
    add_l_ok (λ b. b) t ◌+ℤ◌ (λ a b. refl) (a ∷ []) (add_l ◌+ℤ◌ (map (λ b. c *ℤ b) q) (pos 0 ∷ q))
    ∙ ap (λ z. (a +ℤ t *ℤ pos 0) +ℤ z) (add_l_ok (λ b. b) t ◌+ℤ◌ (λ a b. refl) (map (λ b. c *ℤ b) q) (pos 0 ∷ q) ∙ ap (λ z. z +ℤ (pos 0 +ℤ t *ℤ at q t)) (map_ok (λ b. b) t c (λ b. c *ℤ b) (λ b. refl) q))
    ∙ ap (λ z. (a +ℤ t *ℤ pos 0) +ℤ (c *ℤ z +ℤ (pos 0 +ℤ t *ℤ z))) (shift_ok c t p)
    ∙ ring! (a ∷ t ∷ c ∷ at p (c +ℤ t) ∷ []) (search quote depth 40) tt

-- a bound of |p(t)| for |t| ≤ w
abbrev pub size : ℕ → List ℤ → ℕ
size w [] = 0
size w (a ∷ p) = nat_abs a + w * size w p

size_ok : (w : ℕ) (t : ℤ) → nat_abs t ≤ w → (p : List ℤ) → nat_abs (at p t) ≤ size w p
size_ok w t h [] = omega arith
size_ok w t h (a ∷ p) =
    let k : nat_abs t * nat_abs (at p t) ≤ w * size w p = mul-le-mul h (size_ok w t h p) in
    omega (arith, abs-+ a (t *ℤ at p t), abs-* t (at p t))

-- the test that p is not negative within w of 0
abbrev pub nonneg_at : ℕ → List ℤ → Bool
nonneg_at w [] = true
nonneg_at w (a ∷ p) = le_z (pos (w * size w p)) a

nonneg_at_ok : (w : ℕ) (t : ℤ) → nat_abs t ≤ w → (p : List ℤ) → T (nonneg_at w p) → pos 0 ≤ℤ at p t
nonneg_at_ok w t h [] u = omega linear
nonneg_at_ok w t h (a ∷ p) u =
    let k : nat_abs t * nat_abs (at p t) ≤ w * size w p = mul-le-mul h (size_ok w t h p) in
    let l : pos (w * size w p) ≤ℤ a = le_z_yes u in
    let m = (abs_size {z = t *ℤ at p t} {m = w * size w p} (omega (arith, abs-* t (at p t)))).low in
    omega (linear, m, neg_parts (pos (w * size w p)), add_parts a (t *ℤ at p t))

-- the same on pieces of the radii ws, one after the other from lo on to `end lo ws`
abbrev pub sweep_b : List ℤ → ℤ → List ℕ → Bool
sweep_b p lo [] = nonneg_at 0 (shift lo p)
sweep_b p lo (w ∷ ws) = nonneg_at w (shift (lo +ℤ pos w) p) && sweep_b p (lo +ℤ pos w +ℤ pos w) ws

abbrev pub end : ℤ → List ℕ → ℤ
end lo [] = lo
end lo (w ∷ ws) = end (lo +ℤ pos w +ℤ pos w) ws

piece : (p : List ℤ) (c : ℤ) (w : ℕ) → T (nonneg_at w (shift c p)) → (x : ℤ) → (c -ℤ pos w) ≤ℤ x → x ≤ℤ (c +ℤ pos w) → pos 0 ≤ℤ at p x
piece p c w u x h k =
    let t = x -ℤ c in
    let b : nat_abs t ≤ w = omega (linear, abs_parts t, sub_parts x c, sub_parts c (pos w), add_parts c (pos w)) in
    let e : c +ℤ t ≡ x = ring! (c ∷ x ∷ []) (search quote depth 20) tt in
    subst (λ z. pos 0 ≤ℤ z) (shift_ok c t p ∙ ap (at p) e) (nonneg_at_ok w t b (shift c p) u)

pub sweep_b_ok : (p : List ℤ) (ws : List ℕ) (lo : ℤ) → T (sweep_b p lo ws) → (x : ℤ) → lo ≤ℤ x → x ≤ℤ end lo ws → pos 0 ≤ℤ at p x
sweep_b_ok p [] lo u x h k = piece p lo 0 u x (omega (linear, sub_parts lo (pos 0))) (omega (linear, add_parts lo (pos 0)))
sweep_b_ok p (w ∷ ws) lo u x h k =
    let c = lo +ℤ pos w in
    let g = and_yes (nonneg_at w (shift c p)) (sweep_b p (c +ℤ pos w) ws) u in
    let a = add_parts lo (pos w) in
    ⊎_elim
    (λ (l : x ≤ℤ (c +ℤ pos w)). piece p c w g.0 x (omega (linear, sub_parts c (pos w))) l)
    (λ (l : (c +ℤ pos w) ≤ℤ x). sweep_b_ok p ws (c +ℤ pos w) g.1 x l k)
    (≤ℤ-total x (c +ℤ pos w))

pub sweep : {x a b : ℤ} (lo : ℤ) (ws : List ℕ) (q : Both (x ∷ []) a b) → T (sweep_b (norm (x ∷ []) (q.right.ex ⊖ q.left.ex)) lo ws) → lo ≤ℤ x → x ≤ℤ end lo ws → a ≤ℤ b
sweep {x} lo ws q u h k =
    let e = q.right.ex ⊖ q.left.ex in
    subst₂ (λ a b. a ≤ℤ b) q.left.ok q.right.ok
    (le_by (sweep_b_ok (norm (x ∷ []) e) ws lo u x h k) (norm_ok (x ∷ []) e))
