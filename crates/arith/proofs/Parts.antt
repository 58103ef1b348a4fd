-- The two parts of an integer, z = p⁺ z − p⁻ z, by which `omega` proves linear facts of ℤ: `omega (linear, add_parts x y)`.
-- Each order and equation of ℤ is one of ℕ between the parts. Assumes nothing.
use mathlib.Core.Path.{◌≡◌, refl, sym, ◌∙◌, ap, ap₂}
use Prim.Native.Nat.{ℕ, zero, suc, ◌+◌, ◌-◌, ◌*◌, ◌≤◌, ◌<◌}
use native.Mathlib.Nat.{mul-zero}
use native.Mathlib.Omega.{arith}
use borrow.Author.Tests.{ltb-true, ltb-false}
use lib.Dec.{ltb, leb→le, le→leb, ltb→lt, lt→ltb}
use lib.IntN.{ℤ, pos, negsuc, neg_ℤ, sub_ℕ, ◌+ℤ◌, ◌-ℤ◌, ◌*ℤ◌}
use lib.Signed.{◌≤ℤ◌, ◌<ℤ◌}
use Rattle.arith.proofs.Choose.{choose}

abbrev pub p⁺ : ℤ → ℕ
p⁺ (pos n) = n
p⁺ (negsuc n) = 0

abbrev pub p⁻ : ℤ → ℕ
p⁻ (pos n) = 0
p⁻ (negsuc n) = suc n

-- ---- ≤, < and ≡ as facts of the parts

pub le→parts : {a b : ℤ} → a ≤ℤ b → p⁺ a + p⁻ b ≤ p⁺ b + p⁻ a
le→parts {a = pos a} {b = pos b} h = omega (arith, leb→le a b h.le)
le→parts {a = pos a} {b = negsuc b} h = absurd h.le
le→parts {a = negsuc a} {b = pos b} h = omega arith
le→parts {a = negsuc a} {b = negsuc b} h = omega (arith, leb→le b a h.le)

pub parts→le : {a b : ℤ} → p⁺ a + p⁻ b ≤ p⁺ b + p⁻ a → a ≤ℤ b
parts→le {a = pos a} {b = pos b} h = record { le = le→leb a b (omega arith) }
parts→le {a = pos a} {b = negsuc b} h = absurd (omega arith)
parts→le {a = negsuc a} {b = pos b} h = record { le = tt }
parts→le {a = negsuc a} {b = negsuc b} h = record { le = le→leb b a (omega arith) }

pub lt→parts : {a b : ℤ} → a <ℤ b → p⁺ a + p⁻ b < p⁺ b + p⁻ a
lt→parts {a = pos a} {b = pos b} h = omega (arith, ltb→lt a b h.lt)
lt→parts {a = pos a} {b = negsuc b} h = absurd h.lt
lt→parts {a = negsuc a} {b = pos b} h = omega arith
lt→parts {a = negsuc a} {b = negsuc b} h = omega (arith, ltb→lt b a h.lt)

pub parts→lt : {a b : ℤ} → p⁺ a + p⁻ b < p⁺ b + p⁻ a → a <ℤ b
parts→lt {a = pos a} {b = pos b} h = record { lt = lt→ltb a b (omega arith) }
parts→lt {a = pos a} {b = negsuc b} h = absurd (omega arith)
parts→lt {a = negsuc a} {b = pos b} h = record { lt = tt }
parts→lt {a = negsuc a} {b = negsuc b} h = record { lt = lt→ltb b a (omega arith) }

pub eq→parts : {a b : ℤ} → a ≡ b → p⁺ a + p⁻ b ≡ p⁺ b + p⁻ a
eq→parts {a} {b} h = ap₂ (λ x y. p⁺ x + p⁻ y) h (sym h)

pub parts→eq : {a b : ℤ} → p⁺ a + p⁻ b ≡ p⁺ b + p⁻ a → a ≡ b
parts→eq {a = pos a} {b = pos b} h = ap pos (omega arith)
parts→eq {a = pos a} {b = negsuc b} h = absurd (omega arith)
parts→eq {a = negsuc a} {b = pos b} h = absurd (omega arith)
parts→eq {a = negsuc a} {b = negsuc b} h = ap negsuc (omega arith)

-- ---- the parts of a sum, a difference, a negation

pub subℕ_parts : (a b : ℕ) → p⁺ (sub_ℕ a b) + b ≡ p⁻ (sub_ℕ a b) + a
subℕ_parts a b =
    choose (λ z. p⁺ z + b ≡ p⁻ z + a) (ltb a b) (negsuc (b - suc a)) (pos (a - b))
    (λ e. omega (arith, ltb-true a b e)) (λ e. omega (arith, ltb-false a b e))

pub add_parts : (x y : ℤ) → p⁺ (x +ℤ y) + (p⁻ x + p⁻ y) ≡ p⁻ (x +ℤ y) + (p⁺ x + p⁺ y)
add_parts (pos a) (pos b) = omega arith
add_parts (pos a) (negsuc b) = omega (arith, subℕ_parts a (suc b))
add_parts (negsuc a) (pos b) = omega (arith, subℕ_parts b (suc a))
add_parts (negsuc a) (negsuc b) = omega arith

pub neg_parts : (x : ℤ) → (p⁺ (neg_ℤ x) ≡ p⁻ x) × (p⁻ (neg_ℤ x) ≡ p⁺ x)
neg_parts (pos zero) = (refl, refl)
neg_parts (pos (suc n)) = (refl, refl)
neg_parts (negsuc n) = (refl, refl)

pub sub_parts : (x y : ℤ) → p⁺ (x -ℤ y) + (p⁻ x + p⁺ y) ≡ p⁻ (x -ℤ y) + (p⁺ x + p⁻ y)
sub_parts x y = omega (arith, add_parts x (neg_ℤ y), neg_parts y)

-- a multiple by a numeral
pub mul_parts : (n : ℕ) (x : ℤ) → (p⁺ (pos n *ℤ x) ≡ n * p⁺ x) × (p⁻ (pos n *ℤ x) ≡ n * p⁻ x)
mul_parts n (pos a) = (refl, sym (mul-zero n))
mul_parts n (negsuc a) = ((neg_parts (pos (n * suc a))).0 ∙ sym (mul-zero n), (neg_parts (pos (n * suc a))).1)

-- `omega (linear, add_parts x y)` reads the orders and equations of ℤ in scope, and proves one
pub ruleset linear = (arith, le→parts, lt→parts, eq→parts, parts→le, parts→lt, parts→eq)
