-- The size of a number, |z| ≤ m: of sums, products, multiples, roots and what a division leaves. Assumes nothing.
use mathlib.Core.Path.{◌≡◌, subst}
use mathlib.Core.List.{[], ◌∷◌}
use mathlib.Core.Logic.{⊎_elim}
use Prim.Native.Nat.{ℕ, ◌<◌}
use lib.IntN.{ℤ, pos, neg_ℤ, ◌+ℤ◌, ◌-ℤ◌, ◌*ℤ◌, neg_ℤ-neg_ℤ}
use lib.Signed.{◌≤ℤ◌, ◌<ℤ◌, quot_z, ≤ℤ_refl, clash_ℤ}
use Rattle.arith.specs.Bounds.{Within}
pub use Rattle.arith.specs.Bounds.{Size}
use Rattle.arith.proofs.Quote.{ring!, quote}
use Rattle.arith.proofs.Parts.{add_parts, sub_parts, neg_parts, linear}
use Rattle.arith.proofs.Order.{+ℤ-mono, negℤ_anti, ≤ℤ-total, <ℤ-total}
use Rattle.arith.proofs.Cert.{◌⊞◌, ◌⊠◌, ◌·◌, gap, gap<, le_by, lt_by, le_by*, *ℤ-cancelˡ-≤}
use Rattle.arith.proofs.Laws.{*ℤ-negℤ}
use Rattle.arith.proofs.Quot.{quot-error, quot-≤, ≤-quot, quot-step}

pub size-+ : {m k a b : ℤ} → Size m a → Size k b → Size (m +ℤ k) (a +ℤ b)
size-+ {m} {k} {a} {b} h i = record {
  low = le_by (gap h.low ⊞ gap i.low) (ring! (m ∷ k ∷ a ∷ b ∷ []) (search quote depth 20) tt);
  high = +ℤ-mono h.high i.high;
}

pub size_neg : {m a : ℤ} → Size m a → Size m (neg_ℤ a)
size_neg {m} h = record { low = negℤ_anti h.high; high = rw neg_ℤ-neg_ℤ at (negℤ_anti h.low) }

pub size-* : {m k a b : ℤ} → Size m a → Size k b → Size (m *ℤ k) (a *ℤ b)
size-* {m} {k} {a} {b} h i = record {
  low = le_by* 2 tt (gap h.high ⊠ gap i.high ⊞ gap h.low ⊠ gap i.low) (ring! (m ∷ k ∷ a ∷ b ∷ []) (search quote depth 20) tt);
  high = le_by* 2 tt (gap h.high ⊠ gap i.low ⊞ gap h.low ⊠ gap i.high) (ring! (m ∷ k ∷ a ∷ b ∷ []) (search quote depth 20) tt);
}

pub size_wider : {m k a : ℤ} → m ≤ℤ k → Size m a → Size k a
size_wider {m} {k} {a} l h = record { low = omega (linear, h.low, neg_parts m, neg_parts k); high = omega (linear, h.high) }

pub size_is : {m a b : ℤ} → Size m a → a ≡ b → Size m b
size_is {m} h e = subst (Size m) e h

-- what lies from 0 to m
pub size_nonneg : {m a : ℤ} → pos 0 ≤ℤ a → a ≤ℤ m → Size m a
size_nonneg {m} {a} l h = record { low = omega (linear, neg_parts m); high = h }

pub size_within : {m a : ℤ} → Within (pos 0) m a → Size m a
size_within h = size_nonneg h.low h.high

pub size_self : {a : ℤ} → pos 0 ≤ℤ a → Size a a
size_self {a} l = size_nonneg l (≤ℤ_refl a)

pub size_cancel : (k : ℤ) {m a : ℤ} → pos 0 <ℤ k → Size (k *ℤ m) (k *ℤ a) → Size m a
size_cancel k {m} {a} p h = record {
  low = *ℤ-cancelˡ-≤ k p (subst (λ z. z ≤ℤ (k *ℤ a)) (ring! (k ∷ m ∷ []) (search quote depth 20) tt) h.low);
  high = *ℤ-cancelˡ-≤ k p h.high;
}

-- a size times what is not negative
pub size_scale : {c m a : ℤ} → pos 0 ≤ℤ c → Size m a → Size (c *ℤ m) (c *ℤ a)
size_scale h k = size-* (size_self h) k

-- the shape of most steps: k a is y, of size up to s, and c = k m - s is not negative
pub size_by : (k : ℤ) {m a s y c : ℤ} → pos 0 <ℤ k → Size s y → pos 0 ≤ℤ c → c ≡ k *ℤ m -ℤ s → y ≡ k *ℤ a → Size m a
size_by k p h c e f = size_cancel k p (size_is (size_wider (le_by c e) h) f)

-- from the square: a² < (m + 1)²
root_most : {m a : ℤ} → pos 0 ≤ℤ m → (a *ℤ a) <ℤ ((m +ℤ pos 1) *ℤ (m +ℤ pos 1)) → a ≤ℤ m
root_most {m} {a} m-nonneg h = ⊎_elim
    (λ l. let g = gap< l in clash_ℤ h (le_by (2 · (m-nonneg ⊠ g) ⊞ 2 · g ⊞ g ⊠ g) (ring! (m ∷ a ∷ []) (search quote depth 20) tt)))
    (λ l. l)
    (<ℤ-total m a)

pub size_root : {m a : ℤ} → pos 0 ≤ℤ m → (a *ℤ a) <ℤ ((m +ℤ pos 1) *ℤ (m +ℤ pos 1)) → Size m a
size_root {m} {a} m-nonneg h =
    let k = root_most {a = neg_ℤ a} m-nonneg (lt_by (gap< h) (ring! (m ∷ a ∷ []) (search quote depth 20) tt)) in
    record { low = le_by (gap k) (ring! (m ∷ a ∷ []) (search quote depth 20) tt); high = root_most m-nonneg h }

-- what a division leaves
pub size_quot : (b : ℕ) → 0 < b → (a : ℤ) → Size (pos b) (a -ℤ pos b *ℤ quot_z a (pos b))
size_quot b p a = let e = quot-error b p a in record { low = omega (linear, e.0); high = omega (linear, e.1) }

-- the quotient itself
pub quot-size : (b : ℕ) → 0 < b → {m a : ℤ} → Size (pos b *ℤ m) a → Size m (quot_z a (pos b))
quot-size b p {m} {a} h = record { low = ≤-quot b p {a = a} {m = neg_ℤ m} (rw (*ℤ-negℤ (pos b) m) h.low); high = quot-≤ b p h.high }

-- how far it goes from one number to another
pub size_step : (b : ℕ) → 0 < b → {m : ℤ} (a c : ℤ) → Size (pos b *ℤ m) (c -ℤ a) → Size m (quot_z c (pos b) -ℤ quot_z a (pos b))
size_step b p {m} a c h = ⊎_elim
    (λ l. size_within (quot-step b p l (omega (linear, h.high, sub_parts c a, add_parts a (pos b *ℤ m)))))
    (λ l. size_is (size_neg (size_within (quot-step b p {a = c} {c = a} {k = m} l (omega (linear, h.low, sub_parts c a, add_parts c (pos b *ℤ m), neg_parts (pos b *ℤ m))))))
    (ring! (quot_z a (pos b) ∷ quot_z c (pos b) ∷ []) (search quote depth 20) tt))
    (≤ℤ-total a c)
