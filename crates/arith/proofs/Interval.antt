-- The smaller and the larger of two integers, and the ends between which a product lies. Assumes nothing.
use mathlib.Core.Bool.{cond}
use mathlib.Core.List.{[], ◌∷◌}
use mathlib.Core.Logic.{⊎_elim}
use lib.IntN.{ℤ, pos, ◌*ℤ◌, *ℤ_comm}
use lib.Signed.{le_z, ◌≤ℤ◌, ≤ℤ_refl}
use Rattle.arith.proofs.Choose.{choose}
use Rattle.arith.proofs.Quote.{ring!, quote}
use Rattle.arith.proofs.Parts.{linear}
use Rattle.arith.proofs.Order.{≤ℤ-trans, ≤ℤ-total, le_true, le_false}
use Rattle.arith.proofs.Cert.{◌⊠◌, gap, le_by, *ℤ-monoʳ}

-- ---- the smaller and the larger of two integers, computed

abbrev pub minℤ : ℤ → ℤ → ℤ
minℤ a b = cond (le_z a b) a b

abbrev pub maxℤ : ℤ → ℤ → ℤ
maxℤ a b = cond (le_z a b) b a

pub min_left : (a b : ℤ) → minℤ a b ≤ℤ a
min_left a b = choose (λ z. z ≤ℤ a) (le_z a b) a b (λ e. ≤ℤ_refl a) (λ e. let h = le_false {a = a} {b = b} e in omega linear)

pub min_right : (a b : ℤ) → minℤ a b ≤ℤ b
min_right a b = choose (λ z. z ≤ℤ b) (le_z a b) a b (λ e. le_true {a = a} {b = b} e) (λ e. ≤ℤ_refl b)

pub max_left : (a b : ℤ) → a ≤ℤ maxℤ a b
max_left a b = choose (λ z. a ≤ℤ z) (le_z a b) b a (λ e. le_true {a = a} {b = b} e) (λ e. ≤ℤ_refl a)

pub max_right : (a b : ℤ) → b ≤ℤ maxℤ a b
max_right a b = choose (λ z. b ≤ℤ z) (le_z a b) b a (λ e. ≤ℤ_refl b) (λ e. let h = le_false {a = a} {b = b} e in omega linear)

pub max_least : (a b z : ℤ) → a ≤ℤ z → b ≤ℤ z → maxℤ a b ≤ℤ z
max_least a b z h k = choose (λ m. m ≤ℤ z) (le_z a b) b a (λ e. k) (λ e. h)

-- ---- a product lies between those of the ends

*ℤ-antiʳ : (y : ℤ) {a b : ℤ} → y ≤ℤ pos 0 → a ≤ℤ b → (b *ℤ y) ≤ℤ (a *ℤ y)
*ℤ-antiʳ y {a} {b} hy h = le_by (gap h ⊠ gap hy) (ring! (y ∷ a ∷ b ∷ []) (search quote depth 20) tt)

module _ {x l h : ℤ} (lx : l ≤ℤ x) (xh : x ≤ℤ h) (y m : ℤ) where
  below : m ≤ℤ (l *ℤ y) → m ≤ℤ (h *ℤ y) → m ≤ℤ (x *ℤ y)
  below p q = ⊎_elim (λ (n : pos 0 ≤ℤ y). ≤ℤ-trans p (*ℤ-monoʳ y n lx)) (λ n. ≤ℤ-trans q (*ℤ-antiʳ y n xh)) (≤ℤ-total (pos 0) y)

  above : (l *ℤ y) ≤ℤ m → (h *ℤ y) ≤ℤ m → (x *ℤ y) ≤ℤ m
  above p q = ⊎_elim (λ (n : pos 0 ≤ℤ y). ≤ℤ-trans (*ℤ-monoʳ y n xh) q) (λ n. ≤ℤ-trans (*ℤ-antiʳ y n lx) p) (≤ℤ-total (pos 0) y)

abbrev pub lo* : ℤ → ℤ → ℤ → ℤ → ℤ
lo* a b c d = minℤ (minℤ (a *ℤ c) (a *ℤ d)) (minℤ (b *ℤ c) (b *ℤ d))

abbrev pub hi* : ℤ → ℤ → ℤ → ℤ → ℤ
hi* a b c d = maxℤ (maxℤ (a *ℤ c) (a *ℤ d)) (maxℤ (b *ℤ c) (b *ℤ d))

min_each : (p q r s : ℤ) → let m = minℤ (minℤ p q) (minℤ r s) in (m ≤ℤ p) × (m ≤ℤ q) × (m ≤ℤ r) × (m ≤ℤ s)
min_each p q r s =
    let a = min_left (minℤ p q) (minℤ r s) in
    let b = min_right (minℤ p q) (minℤ r s) in
    (≤ℤ-trans a (min_left p q), ≤ℤ-trans a (min_right p q), ≤ℤ-trans b (min_left r s), ≤ℤ-trans b (min_right r s))

max_each : (p q r s : ℤ) → let m = maxℤ (maxℤ p q) (maxℤ r s) in (p ≤ℤ m) × (q ≤ℤ m) × (r ≤ℤ m) × (s ≤ℤ m)
max_each p q r s =
    let a = max_left (maxℤ p q) (maxℤ r s) in
    let b = max_right (maxℤ p q) (maxℤ r s) in
    (≤ℤ-trans (max_left p q) a, ≤ℤ-trans (max_right p q) a, ≤ℤ-trans (max_left r s) b, ≤ℤ-trans (max_right r s) b)

module _ {x y a b c d : ℤ} (ax : a ≤ℤ x) (xb : x ≤ℤ b) (cy : c ≤ℤ y) (yd : y ≤ℤ d) where
  side_low : (k m : ℤ) → m ≤ℤ (k *ℤ c) → m ≤ℤ (k *ℤ d) → m ≤ℤ (k *ℤ y)
  side_low k m p q = rw (*ℤ_comm k y) (below cy yd k m (rw (*ℤ_comm c k) p) (rw (*ℤ_comm d k) q))

  side_high : (k m : ℤ) → (k *ℤ c) ≤ℤ m → (k *ℤ d) ≤ℤ m → (k *ℤ y) ≤ℤ m
  side_high k m p q = rw (*ℤ_comm k y) (above cy yd k m (rw (*ℤ_comm c k) p) (rw (*ℤ_comm d k) q))

  pub mul_low : lo* a b c d ≤ℤ (x *ℤ y)
  mul_low =
      let (p, q, r, s) = min_each (a *ℤ c) (a *ℤ d) (b *ℤ c) (b *ℤ d) in
      below ax xb y (lo* a b c d) (side_low a (lo* a b c d) p q) (side_low b (lo* a b c d) r s)

  pub mul_high : (x *ℤ y) ≤ℤ hi* a b c d
  mul_high =
      let (p, q, r, s) = max_each (a *ℤ c) (a *ℤ d) (b *ℤ c) (b *ℤ d) in
      above ax xb y (hi* a b c d) (side_high a (hi* a b c d) p q) (side_high b (hi* a b c d) r s)
