-- The laws of ≤ and < on ℤ, the tests of the code as facts, and the absolute value. Assumes nothing.
use mathlib.Core.Path.{◌≡◌, refl}
use mathlib.Core.Bool.{true, false}
use mathlib.Core.Logic.{◌⊎◌, inl, inr, ⊎_elim}
use mathlib.Mathlib.Data.Bool.Basic.{eq-true_of_not-eq-false, eq-false_of_not-eq-true}
use Prim.Native.Nat.{ℕ, zero, suc, ◌+◌, ◌*◌, ◌≤◌, min}
use native.Mathlib.Omega.{arith}
use lib.IntN.{ℤ, pos, negsuc, neg_ℤ, nat_abs, ◌+ℤ◌, ◌-ℤ◌, ◌*ℤ◌}
use lib.Signed.{le_z, lt_z, ◌≤ℤ◌, ◌<ℤ◌, lt_z_no, le_z_yes, lt_z_yes, clash_ℤ}
use mir.Facts.{and_yes}
use Rattle.arith.specs.Bounds.{Within, Size, is_within}
use Rattle.arith.proofs.Choose.{by_test}
use Rattle.arith.proofs.Parts.{p⁺, p⁻, add_parts, sub_parts, neg_parts, linear}

-- ---- a partial order; < is its strict part (`lib.Signed` has `≤ℤ_refl` and `<ℤ-≤ℤ_trans`)

pub ≤ℤ-trans : {a b c : ℤ} → a ≤ℤ b → b ≤ℤ c → a ≤ℤ c
≤ℤ-trans h k = omega linear

pub ≤ℤ-<ℤ-trans : {a b c : ℤ} → a ≤ℤ b → b <ℤ c → a <ℤ c
≤ℤ-<ℤ-trans h k = omega linear

pub ≤ℤ-antisymm : {a b : ℤ} → a ≤ℤ b → b ≤ℤ a → a ≡ b
≤ℤ-antisymm h k = omega linear

pub <ℤ→≤ℤ : {a b : ℤ} → a <ℤ b → a ≤ℤ b
<ℤ→≤ℤ h = omega linear

pub +ℤ-mono : {a b c d : ℤ} → a ≤ℤ b → c ≤ℤ d → (a +ℤ c) ≤ℤ (b +ℤ d)
+ℤ-mono {a} {b} {c} {d} h k = omega (linear, add_parts a c, add_parts b d)

pub negℤ_anti : {a b : ℤ} → a ≤ℤ b → neg_ℤ b ≤ℤ neg_ℤ a
negℤ_anti {a} {b} h = omega (linear, neg_parts a, neg_parts b)

-- ---- a test of the code as a fact, and back

pub lt_true : {a b : ℤ} → lt_z a b ≡ true → a <ℤ b
lt_true e = lt_z_yes (rw e tt)

pub lt_false : {a b : ℤ} → lt_z a b ≡ false → b ≤ℤ a
lt_false e = lt_z_no (rw e tt)

-- a total order, by a test that computes
pub <ℤ-total : (a b : ℤ) → (a <ℤ b) ⊎ (b ≤ℤ a)
<ℤ-total a b = by_test (lt_z a b) (λ e. inl (lt_true {a = a} {b = b} e)) (λ e. inr (lt_false {a = a} {b = b} e))

pub ≤ℤ-total : (a b : ℤ) → (a ≤ℤ b) ⊎ (b ≤ℤ a)
≤ℤ-total a b = ⊎_elim (λ h. inl (<ℤ→≤ℤ h)) (λ h. inr h) (<ℤ-total a b)

pub le_true : {a b : ℤ} → le_z a b ≡ true → a ≤ℤ b
le_true e = le_z_yes (rw e tt)

pub le_false : {a b : ℤ} → le_z a b ≡ false → b <ℤ a
le_false {a} {b} e = ⊎_elim (λ h. h) (λ (h : a ≤ℤ b). absurd (rw e at h.le)) (<ℤ-total b a)

pub true_lt : {a b : ℤ} → a <ℤ b → lt_z a b ≡ true
true_lt {a} {b} h = eq-true_of_not-eq-false {b = lt_z a b} (λ e. clash_ℤ h (lt_false {a = a} {b = b} e))

pub true_le : {a b : ℤ} → a ≤ℤ b → le_z a b ≡ true
true_le {a} {b} h = eq-true_of_not-eq-false {b = le_z a b} (λ e. clash_ℤ (le_false {a = a} {b = b} e) h)

pub false_lt : {a b : ℤ} → b ≤ℤ a → lt_z a b ≡ false
false_lt {a} {b} h = eq-false_of_not-eq-true {b = lt_z a b} (λ e. clash_ℤ (lt_true {a = a} {b = b} e) h)

pub false_le : {a b : ℤ} → b <ℤ a → le_z a b ≡ false
false_le {a} {b} h = eq-false_of_not-eq-true {b = le_z a b} (λ e. clash_ℤ h (le_true {a = a} {b = b} e))

-- ---- the absolute value, `nat_abs`, a ℕ

pub abs_parts : (z : ℤ) → (nat_abs z ≡ p⁺ z + p⁻ z) × (min (p⁺ z) (p⁻ z) ≡ 0)
abs_parts (pos n) = omega arith
abs_parts (negsuc n) = omega arith

pub abs_neg : (z : ℤ) → nat_abs (neg_ℤ z) ≡ nat_abs z
abs_neg (pos zero) = refl
abs_neg (pos (suc n)) = refl
abs_neg (negsuc n) = refl

pub abs-* : (a b : ℤ) → nat_abs (a *ℤ b) ≡ nat_abs a * nat_abs b
abs-* (pos a) (pos b) = refl
abs-* (pos a) (negsuc b) = abs_neg (pos (a * suc b))
abs-* (negsuc a) (pos b) = abs_neg (pos (suc a * b))
abs-* (negsuc a) (negsuc b) = refl

pub abs-+ : (a b : ℤ) → nat_abs (a +ℤ b) ≤ nat_abs a + nat_abs b
abs-+ a b = omega (linear, add_parts a b, abs_parts (a +ℤ b), abs_parts a, abs_parts b)

-- |a - b| ≤ |a| + |b|
pub abs_sub : (a b : ℤ) → nat_abs (a -ℤ b) ≤ nat_abs a + nat_abs b
abs_sub a b = omega (linear, sub_parts a b, abs_parts (a -ℤ b), abs_parts a, abs_parts b)

-- |z| ≤ m as two bounds of z, and back
pub size_abs : {z : ℤ} {m : ℕ} → Size (pos m) z → nat_abs z ≤ m
size_abs {z} {m} h = omega (linear, h.low, h.high, abs_parts z, neg_parts (pos m))

pub abs_size : {z : ℤ} {m : ℕ} → nat_abs z ≤ m → Size (pos m) z
abs_size {z} {m} h = record { low = omega (linear, abs_parts z, neg_parts (pos m)); high = omega (linear, abs_parts z) }

-- the test of two bounds as a fact, and back; a size is the case of -m and m
pub within_true : {lo hi z : ℤ} → is_within lo hi z ≡ true → Within lo hi z
within_true {lo} {hi} {z} e = let t = and_yes (le_z lo z) (le_z z hi) (rw e tt) in record { low = le_z_yes t.0; high = le_z_yes t.1 }

pub true_within : {lo hi z : ℤ} → Within lo hi z → is_within lo hi z ≡ true
true_within h = rw (true_le h.low, true_le h.high)
