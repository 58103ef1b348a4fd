-- Certificates: an inequality from a sum of products of what is known not to be negative, an equation from a sum of multiples of equations, both checked by the ring solver.
-- `le-by (3 · gap h ⊞ gap h ⊠ gap k ⊞ sq (x -ℤ y)) (ring! (x ∷ y ∷ []) (search quote depth 40) tt) : a ≤ℤ b`, where the sum is b - a. Assumes nothing.
use mathlib.Core.Path.{◌≡◌, sym, ◌∙◌, ap, ap₂}
use mathlib.Core.Logic.{⊎_elim}
use Prim.Native.Nat.{ℕ, ◌*◌, ◌<◌}
use native.Mathlib.Nat.{mul-pos}
use lib.Dec.{T, ltb, ltb→lt}
use lib.IntN.{ℤ, pos, negsuc, ◌+ℤ◌, ◌-ℤ◌, ◌*ℤ◌, *ℤ-zero, +ℤ_invr}
use lib.Signed.{◌≤ℤ◌, ◌<ℤ◌, clash_ℤ}
use Rattle.arith.proofs.Laws.{sub_eq, *ℤ-distribˡ-sub, *ℤ-distribʳ-sub}
use Rattle.arith.proofs.Parts.{add_parts, sub_parts, linear}
use Rattle.arith.proofs.Order.{<ℤ-total}

-- ---- what is not negative

infixl 60 ◌⊞◌
infixl 70 ◌⊠◌
infixr 80 ◌·◌
pub ◌⊞◌ : {a b : ℤ} → pos 0 ≤ℤ a → pos 0 ≤ℤ b → pos 0 ≤ℤ (a +ℤ b)
◌⊞◌ {a} {b} h k = omega (linear, add_parts a b)

pub ◌⊠◌ : {a b : ℤ} → pos 0 ≤ℤ a → pos 0 ≤ℤ b → pos 0 ≤ℤ (a *ℤ b)
◌⊠◌ {a = pos a} {b = pos b} h k = omega linear
◌⊠◌ {a = pos a} {b = negsuc b} h k = absurd k.le
◌⊠◌ {a = negsuc a} {b} h k = absurd h.le

pub num : (n : ℕ) → pos 0 ≤ℤ pos n
num n = omega linear

pub ◌·◌ : (n : ℕ) {a : ℤ} → pos 0 ≤ℤ a → pos 0 ≤ℤ (pos n *ℤ a)
n · h = num n ⊠ h

pub sq : (a : ℤ) → pos 0 ≤ℤ (a *ℤ a)
sq (pos a) = omega linear
sq (negsuc a) = omega linear

-- a hypothesis, as the difference of its sides; a strict one is one less
pub gap : {a b : ℤ} → a ≤ℤ b → pos 0 ≤ℤ (b -ℤ a)
gap {a} {b} h = omega (linear, sub_parts b a)

pub gap< : {a b : ℤ} → a <ℤ b → pos 0 ≤ℤ (b -ℤ a -ℤ pos 1)
gap< {a} {b} h = omega (linear, sub_parts b a, sub_parts (b -ℤ a) (pos 1))

-- ---- what they prove

pub nonneg_by : {a z : ℤ} → pos 0 ≤ℤ z → z ≡ a → pos 0 ≤ℤ a
nonneg_by h e = rw e at h

pub le_by : {a b z : ℤ} → pos 0 ≤ℤ z → z ≡ b -ℤ a → a ≤ℤ b
le_by {a} {b} h e = let k : pos 0 ≤ℤ (b -ℤ a) = rw e at h in omega (linear, sub_parts b a)

pub lt_by : {a b z : ℤ} → pos 0 ≤ℤ z → z ≡ b -ℤ a -ℤ pos 1 → a <ℤ b
lt_by {a} {b} {z} h e = let k : pos 0 ≤ℤ (b -ℤ a -ℤ pos 1) = rw e at h in omega (linear, sub_parts b a, sub_parts (b -ℤ a) (pos 1))

-- ---- the product keeps an order, and a positive factor cancels

pub *ℤ-monoˡ : (k : ℤ) {a b : ℤ} → pos 0 ≤ℤ k → a ≤ℤ b → (k *ℤ a) ≤ℤ (k *ℤ b)
*ℤ-monoˡ k {a} {b} hk h = le_by (hk ⊠ gap h) (*ℤ-distribˡ-sub k b a)

pub *ℤ-monoʳ : (k : ℤ) {a b : ℤ} → pos 0 ≤ℤ k → a ≤ℤ b → (a *ℤ k) ≤ℤ (b *ℤ k)
*ℤ-monoʳ k {a} {b} hk h = le_by (gap h ⊠ hk) (*ℤ-distribʳ-sub b a k)

pub 0<* : {a b : ℤ} → pos 0 <ℤ a → pos 0 <ℤ b → pos 0 <ℤ (a *ℤ b)
0<* {a = pos a} {b = pos b} h k = let m : 0 < a * b = mul-pos {m = a} {n = b} (omega linear) (omega linear) in omega linear
0<* {a = pos a} {b = negsuc b} h k = absurd k.lt
0<* {a = negsuc a} {b} h k = absurd h.lt

pub *ℤ-monoˡ-< : (k : ℤ) {a b : ℤ} → pos 0 <ℤ k → a <ℤ b → (k *ℤ a) <ℤ (k *ℤ b)
*ℤ-monoˡ-< k {a} {b} hk h =
    let d : pos 0 <ℤ (k *ℤ (b -ℤ a)) = 0<* hk (omega (linear, sub_parts b a)) in
    let e : pos 0 <ℤ (k *ℤ b -ℤ k *ℤ a) = rw *ℤ-distribˡ-sub at d in
    omega (linear, sub_parts (k *ℤ b) (k *ℤ a))

pub *ℤ-cancelˡ-≤ : (k : ℤ) {a b : ℤ} → pos 0 <ℤ k → (k *ℤ a) ≤ℤ (k *ℤ b) → a ≤ℤ b
*ℤ-cancelˡ-≤ k {a} {b} hk h = ⊎_elim (λ l. clash_ℤ (*ℤ-monoˡ-< k hk l) h) (λ g. g) (<ℤ-total b a)

pub *ℤ-cancelˡ-< : (k : ℤ) {a b : ℤ} → pos 0 ≤ℤ k → (k *ℤ a) <ℤ (k *ℤ b) → a <ℤ b
*ℤ-cancelˡ-< k {a} {b} hk h = ⊎_elim (λ l. l) (λ g. clash_ℤ h (*ℤ-monoˡ k hk g)) (<ℤ-total a b)

-- `le-by* 2 tt` and `lt_by* 2 tt`: the same of 2 a and 2 b, for a sum that is 2 b - 2 a (less 1); any numeral but 0 serves
pub le_by* : (k : ℕ) {a b z : ℤ} → T (ltb 0 k) → pos 0 ≤ℤ z → z ≡ pos k *ℤ b -ℤ pos k *ℤ a → a ≤ℤ b
le_by* k t h e = let p = ltb→lt 0 k t in *ℤ-cancelˡ-≤ (pos k) (omega linear) (le_by h e)

pub lt-by* : (k : ℕ) {a b z : ℤ} → T (ltb 0 k) → pos 0 ≤ℤ z → z ≡ pos k *ℤ b -ℤ pos k *ℤ a -ℤ pos 1 → a <ℤ b
lt-by* k t h e = let p = ltb→lt 0 k t in *ℤ-cancelˡ-< (pos k) (omega linear) (lt_by h e)

-- ---- equations from equations: `eq-by (c ⊛ e ⊹ d ⊛ f) (ring! ..)`, where the sum of the c (u - v) is a - b

infixl 60 ◌⊹◌
infixr 80 ◌⊛◌
pub ◌⊹◌ : {a b : ℤ} → a ≡ pos 0 → b ≡ pos 0 → a +ℤ b ≡ pos 0
h ⊹ k = ap₂ (λ x y. x +ℤ y) h k

pub ◌⊛◌ : (c : ℤ) {u v : ℤ} → u ≡ v → c *ℤ (u -ℤ v) ≡ pos 0
◌⊛◌ c {u} {v} h = ap (λ z. c *ℤ z) (ap (λ z. z -ℤ v) h ∙ +ℤ_invr v) ∙ *ℤ-zero c

pub eq_by : {a b z : ℤ} → z ≡ pos 0 → z ≡ a -ℤ b → a ≡ b
eq_by {a} {b} h e = sub_eq a b (sym e ∙ h)
