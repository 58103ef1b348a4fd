-- The laws of `quot_z a (pos b)`, division toward zero by a positive number b. Assumes nothing.
use mathlib.Core.Path.{◌≡◌, refl, sym, ◌∙◌, ap, subst}
use mathlib.Core.Bool.{Bool, true, false, cond}
use mathlib.Core.List.{[], ◌∷◌}
use mathlib.Core.Logic.{⊎_elim}
use Prim.Native.Nat.{ℕ, zero, suc, ◌+◌, ◌-◌, ◌*◌, ◌/◌, ◌%◌, ◌≤◌, ◌<◌}
use native.Mathlib.Nat.{zero-div, mul-div-le, lt-mul-div-succ, mul-div_cancel_left, le-div_iff_mul-le, le_trans, mul-add, mul-one, div-mul-le_self, mod-lt, zero-mod, div-add-mod, le_of_mul-le-mul_left}
use lib.IntN.{ℤ, pos, negsuc, neg_ℤ, nat_abs, ◌+ℤ◌, ◌-ℤ◌, ◌*ℤ◌, neg_ℤ-neg_ℤ, neg_ℤ-+ℤ}
use lib.Signed.{◌≤ℤ◌, ◌<ℤ◌, quot_z, rem_z, le_z}
use Rattle.arith.specs.Bounds.{Within}
use Rattle.arith.proofs.Quote.{ring!, quote-nat, q_pos}
use Rattle.arith.proofs.Laws.{*ℤ-negℤ, *ℤ-distribˡ, *ℤ-idʳ}
use Rattle.arith.proofs.Parts.{add_parts, sub_parts, neg_parts, linear}
use Rattle.arith.proofs.Order.{≤ℤ-trans, negℤ_anti, abs_neg, ≤ℤ-total, ≤ℤ-<ℤ-trans, ≤ℤ-antisymm, le_true}
use Rattle.arith.proofs.Cert.{◌⊞◌, gap, gap<, le_by, lt_by, *ℤ-cancelˡ-<}

pub quot-neg : (a : ℤ) (b : ℕ) → quot_z (neg_ℤ a) (pos b) ≡ neg_ℤ (quot_z a (pos b))
quot-neg (pos zero) b = rw zero-div
quot-neg (pos (suc n)) b = refl
quot-neg (negsuc n) b = sym (neg_ℤ-neg_ℤ (pos (suc n / b)))

-- |a / b| is |a| / b
pub quot-abs : (a : ℤ) (b : ℕ) → nat_abs (quot_z a (pos b)) ≡ nat_abs a / b
quot-abs (pos a) b = refl
quot-abs (negsuc a) b = abs_neg (pos (suc a / b))

pub quot-*ˡ : (b : ℕ) (k : ℤ) → 0 < b → quot_z (pos b *ℤ k) (pos b) ≡ k
quot-*ˡ b (pos k) h = ap pos (mul-div_cancel_left k h)
quot-*ˡ b (negsuc k) h = quot-neg (pos (b * suc k)) b ∙ ap (λ n. neg_ℤ (pos n)) (mul-div_cancel_left (suc k) h)

module _ (b : ℕ) (b>0 : 0 < b) where
  -- the division of ℕ: b (n / b) ≤ n < b (n / b) + b
  div_bounds : (n : ℕ) → (b * (n / b) ≤ n) × (n < b * (n / b) + b)
  div_bounds n = (mul-div-le n b, rw (mul-add, mul-one) at (lt-mul-div-succ n b>0))

  div_mono : (m n : ℕ) → m ≤ n → m / b ≤ n / b
  div_mono m n h = (le-div_iff_mul-le b>0).1 (le_trans (div-mul-le_self m b) h)

  -- a not negative: b q ≤ a < b q + b
  pub quot-nonneg : (a : ℤ) → pos 0 ≤ℤ a → (pos 0 ≤ℤ quot_z a (pos b)) × ((pos b *ℤ quot_z a (pos b)) ≤ℤ a) × (a <ℤ (pos b *ℤ quot_z a (pos b) +ℤ pos b))
  quot-nonneg (pos a) h = let d = div_bounds a in (omega linear, omega linear, omega linear)
  quot-nonneg (negsuc a) h = absurd h.le

  -- a not positive: b q - b < a ≤ b q
  pub quot-nonpos : (a : ℤ) → a ≤ℤ pos 0 → (quot_z a (pos b) ≤ℤ pos 0) × (a ≤ℤ (pos b *ℤ quot_z a (pos b))) × ((pos b *ℤ quot_z a (pos b) -ℤ pos b) <ℤ a)
  quot-nonpos a h =
      let q = quot_z a (pos b) in
      let n = rw (quot-neg a b, *ℤ-negℤ (pos b) q) at (quot-nonneg (neg_ℤ a) (omega (linear, neg_parts a))) in (
        omega (linear, n.0, neg_parts q),
        omega (linear, n.1, neg_parts a, neg_parts (pos b *ℤ q)),
        omega (linear, n.2, neg_parts a, neg_parts (pos b *ℤ q), add_parts (neg_ℤ (pos b *ℤ q)) (pos b), sub_parts (pos b *ℤ q) (pos b)),
      )

  -- the error of the division is below b
  pub quot-error : (a : ℤ) → (neg_ℤ (pos b) <ℤ (a -ℤ pos b *ℤ quot_z a (pos b))) × ((a -ℤ pos b *ℤ quot_z a (pos b)) <ℤ pos b)
  quot-error a =
      let e = pos b *ℤ quot_z a (pos b) in
      ⊎_elim
      (λ h. let n = quot-nonneg a h in (omega (linear, n, add_parts e (pos b), sub_parts a e, neg_parts (pos b)), omega (linear, n, add_parts e (pos b), sub_parts a e)))
      (λ h. let n = quot-nonpos a h in (omega (linear, n, sub_parts e (pos b), sub_parts a e, neg_parts (pos b)), omega (linear, n, sub_parts e (pos b), sub_parts a e)))
      (≤ℤ-total (pos 0) a)

  pub quot-mono : {a c : ℤ} → a ≤ℤ c → quot_z a (pos b) ≤ℤ quot_z c (pos b)
  quot-mono {a = pos a} {c = pos c} h = omega (linear, div_mono a c (omega linear))
  quot-mono {a = pos a} {c = negsuc c} h = absurd h.le
  quot-mono {a = negsuc a} {c = pos c} h = ≤ℤ-trans (quot-nonpos (negsuc a) (omega linear)).0 (omega linear)
  quot-mono {a = negsuc a} {c = negsuc c} h = negℤ_anti {a = pos (suc c / b)} {b = pos (suc a / b)} (omega (linear, div_mono (suc c) (suc a) (omega linear)))

  -- bounds of the quotient from bounds of a
  pub quot-≤ : {a m : ℤ} → a ≤ℤ (pos b *ℤ m) → quot_z a (pos b) ≤ℤ m
  quot-≤ {a} {m} h = subst (λ z. quot_z a (pos b) ≤ℤ z) (quot-*ˡ b m b>0) (quot-mono h)

  pub ≤-quot : {a m : ℤ} → (pos b *ℤ m) ≤ℤ a → m ≤ℤ quot_z a (pos b)
  ≤-quot {a} {m} h = subst (λ z. z ≤ℤ quot_z a (pos b)) (quot-*ˡ b m b>0) (quot-mono h)

  -- from a up to c, which is b k or less above it, the quotient goes up by k or less
  pub quot-step : {a c k : ℤ} → a ≤ℤ c → c ≤ℤ (a +ℤ pos b *ℤ k) → Within (pos 0) k (quot_z c (pos b) -ℤ quot_z a (pos b))
  quot-step {a} {c} {k} h l =
      let p = quot_z a (pos b) in
      let q = quot_z c (pos b) in
      let ρ = pos b ∷ a ∷ c ∷ k ∷ p ∷ q ∷ [] in
      let below : q <ℤ (p +ℤ k +ℤ pos 1) = *ℤ-cancelˡ-< (pos b) (omega linear) (⊎_elim
      (λ i. lt_by (gap (quot-nonneg c i).1 ⊞ gap l ⊞ gap< (quot-error a).1) (ring! ρ (search (quote-nat, q_pos 1) depth 40) tt))
      (λ i. lt_by (gap< (quot-error c).0 ⊞ gap l ⊞ gap (quot-nonpos a (≤ℤ-trans h i)).1) (ring! ρ (search (quote-nat, q_pos 1) depth 40) tt))
      (≤ℤ-total (pos 0) c)) in
      record { low = gap (quot-mono h); high = le_by (gap< below) (ring! ρ (search (quote-nat, q_pos 1) depth 40) tt) }

  -- the quotient of a number that is not negative is the one q with b q ≤ a < b q + b
  pub quot_unique : {a q : ℤ} → pos 0 ≤ℤ a → (pos b *ℤ q) ≤ℤ a → a <ℤ (pos b *ℤ q +ℤ pos b) → quot_z a (pos b) ≡ q
  quot_unique {a} {q} n h k =
      let e : pos b *ℤ (q +ℤ pos 1) ≡ pos b *ℤ q +ℤ pos b = *ℤ-distribˡ (pos b) q (pos 1) ∙ ap (λ z. pos b *ℤ q +ℤ z) (*ℤ-idʳ (pos b)) in
      let l : (pos b *ℤ quot_z a (pos b)) <ℤ (pos b *ℤ (q +ℤ pos 1)) = rw e (≤ℤ-<ℤ-trans (quot-nonneg a n).1 k) in
      let u : quot_z a (pos b) <ℤ (q +ℤ pos 1) = *ℤ-cancelˡ-< (pos b) (omega linear) l in
      ≤ℤ-antisymm (omega (linear, add_parts q (pos 1))) (≤-quot h)

  -- ---- the remainder, which has the sign of a: its least and its largest value, from a bound of a
  pub rem-low : {a lo : ℤ} → lo ≤ℤ a → cond (le_z (pos 0) lo) (pos 0) (neg_ℤ (pos (b - 1))) ≤ℤ rem_z a (pos b)
  rem-low {a} {lo} h = go a (le_z (pos 0) lo) refl h
    where
      go : (a : ℤ) (c : Bool) → le_z (pos 0) lo ≡ c → lo ≤ℤ a → cond c (pos 0) (neg_ℤ (pos (b - 1))) ≤ℤ rem_z a (pos b)
      go (pos a) true e h = omega linear
      go (pos a) false e h = omega (linear, neg_parts (pos (b - 1)))
      go (negsuc a) true e h = let k = le_true {a = pos 0} {b = lo} e in absurd (omega linear)
      go (negsuc a) false e h = omega (linear, neg_parts (pos (b - 1)), neg_parts (pos (suc a % b)), mod-lt (suc a) b>0)

  pub rem-high : {a hi : ℤ} → a ≤ℤ hi → rem_z a (pos b) ≤ℤ cond (le_z hi (pos 0)) (pos 0) (pos (b - 1))
  rem-high {a} {hi} h = go a (le_z hi (pos 0)) refl h
    where
      go : (a : ℤ) (c : Bool) → le_z hi (pos 0) ≡ c → a ≤ℤ hi → rem_z a (pos b) ≤ℤ cond c (pos 0) (pos (b - 1))
      go (pos a) true e h = let k = le_true {a = hi} {b = pos 0} e in let z : a ≡ 0 = omega linear in rw (z, zero-mod) (omega linear)
      go (pos a) false e h = omega (linear, mod-lt a b>0)
      go (negsuc a) true e h = omega (linear, neg_parts (pos (suc a % b)))
      go (negsuc a) false e h = omega (linear, neg_parts (pos (suc a % b)))

  -- ---- the same of the magnitudes: b |q| ≤ |a| < b |q| + b, and bounds of |q| from bounds of |a|
  pub quot-abs_bounds : (a : ℤ) → (b * nat_abs (quot_z a (pos b)) ≤ nat_abs a) × (nat_abs a < b * nat_abs (quot_z a (pos b)) + b)
  quot-abs_bounds a = rw (quot-abs a b) (div_bounds (nat_abs a))

  pub quot-abs-≤ : (a : ℤ) (m : ℕ) → nat_abs a ≤ b * m → nat_abs (quot_z a (pos b)) ≤ m
  quot-abs-≤ a m h = le_of_mul-le-mul_left (le_trans (quot-abs_bounds a).0 h) b>0

pub quot-rem : (a : ℤ) (b : ℕ) → pos b *ℤ quot_z a (pos b) +ℤ rem_z a (pos b) ≡ a
quot-rem (pos a) b = ap pos (div-add-mod a b)
quot-rem (negsuc a) b =
    ap (λ z. z +ℤ neg_ℤ (pos (suc a % b))) (*ℤ-negℤ (pos b) (pos (suc a / b)))
    ∙ sym (neg_ℤ-+ℤ (pos (b * (suc a / b))) (pos (suc a % b)))
    ∙ ap (λ n. neg_ℤ (pos n)) (div-add-mod (suc a) b)
