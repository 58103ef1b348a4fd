-- The ends of a range, computed, with what they say of a value: sums, products, squares, quotients, remainders and steps through bits. Assumes nothing.
use mathlib.Core.Path.{◌≡◌, sym, ◌∙◌, ap, ap₂, subst}
use mathlib.Core.Bool.{Bool, cond, ◌&&◌}
use Prim.Native.Nat.{ℕ, ◌-◌, ◌<◌, ◌^◌}
use lib.Dec.{T, ltb, ltb→lt}
use lib.IntN.{ℤ, pos, negsuc, neg_ℤ, ◌+ℤ◌, ◌*ℤ◌}
use lib.Signed.{mag, le_z, quot_z, rem_z, ◌≤ℤ◌, le_z_yes}
use lib.Pow.{pow_pos}
use mir.Syntax.{Width}
use mir.Val.{SFits, hbits, to_z, of_z}
use mir.Facts.{to_z-of_z, and_yes}
use Rattle.arith.proofs.Parts.{linear}
use Rattle.arith.proofs.Order.{≤ℤ-trans, +ℤ-mono, negℤ_anti}
use Rattle.arith.proofs.Cert.{sq}
use Rattle.arith.proofs.Interval.{maxℤ, max_least, lo*, hi*, mul_low, mul_high}
use Rattle.arith.proofs.Quot.{quot-mono, rem-low, rem-high}

-- ---- the ends of a range, computed

-- The ends, and whether each step through bits on the way keeps the number and no divisor is 0. A constructor's fields are computed once, so the cost is one pass over the expression.
pub data Ends : Type 0 where
  ends : ℤ → ℤ → Bool → Ends

abbrev pub lo : Ends → ℤ
lo (ends a b g) = a

abbrev pub hi : Ends → ℤ
hi (ends a b g) = b

abbrev pub good : Ends → Bool
good (ends a b g) = g

abbrev pub inside : ℤ → ℤ → ℤ → ℤ → Bool
inside l h a b = le_z l a && le_z b h

abbrev pub add_e : Ends → Ends → Ends
add_e (ends a b g) (ends c d k) = ends (a +ℤ c) (b +ℤ d) (g && k)

abbrev pub neg_e : Ends → Ends
neg_e (ends a b g) = ends (neg_ℤ b) (neg_ℤ a) g

abbrev pub mul_e : Ends → Ends → Ends
mul_e (ends a b g) (ends c d k) = ends (lo* a b c d) (hi* a b c d) (g && k)

abbrev pub sq_e : Ends → Ends
sq_e (ends a b g) = ends (maxℤ (pos 0) (lo* a b a b)) (hi* a b a b) g

abbrev pub quot_e : ℕ → Ends → Ends
quot_e n (ends a b g) = ends (quot_z a (pos n)) (quot_z b (pos n)) (ltb 0 n && g)

abbrev pub rem_e : ℕ → Ends → Ends
rem_e n (ends a b g) = ends (cond (le_z (pos 0) a) (pos 0) (neg_ℤ (pos (n - 1)))) (cond (le_z b (pos 0)) (pos 0) (pos (n - 1))) (ltb 0 n && g)

abbrev pub bits_e : Width → Ends → Ends
bits_e w (ends a b g) = ends a b (inside (negsuc (2 ^ hbits w - 1)) (pos (2 ^ hbits w - 1)) a b && g)

-- ---- what they say of a value: v is z without its steps through bits, and lies between the ends

pub record Lies (z v : ℤ) (e : Ends) : Type 0 where
  pub same : z ≡ v
  pub low : lo e ≤ℤ v
  pub high : v ≤ℤ hi e

pub lies_add : {x y u v : ℤ} (e f : Ends) → (T (good e) → Lies x u e) → (T (good f) → Lies y v f) → T (good (add_e e f)) → Lies (x +ℤ y) (u +ℤ v) (add_e e f)
lies_add (ends a b g) (ends c d k) h i t =
    let s = and_yes g k t in
    let p = h s.0 in
    let q = i s.1 in
    record { same = ap₂ (λ u v. u +ℤ v) p.same q.same; low = +ℤ-mono p.low q.low; high = +ℤ-mono p.high q.high }

pub lies_neg : {x u : ℤ} (e : Ends) → (T (good e) → Lies x u e) → T (good (neg_e e)) → Lies (neg_ℤ x) (neg_ℤ u) (neg_e e)
lies_neg (ends a b g) h t = let p = h t in record { same = ap neg_ℤ p.same; low = negℤ_anti p.high; high = negℤ_anti p.low }

pub lies_mul : {x y u v : ℤ} (e f : Ends) → (T (good e) → Lies x u e) → (T (good f) → Lies y v f) → T (good (mul_e e f)) → Lies (x *ℤ y) (u *ℤ v) (mul_e e f)
lies_mul (ends a b g) (ends c d k) h i t =
    let s = and_yes g k t in
    let p = h s.0 in
    let q = i s.1 in
    record { same = ap₂ (λ u v. u *ℤ v) p.same q.same; low = mul_low p.low p.high q.low q.high; high = mul_high p.low p.high q.low q.high }

pub lies_sq : {x u : ℤ} (e : Ends) → (T (good e) → Lies x u e) → T (good (sq_e e)) → Lies (x *ℤ x) (u *ℤ u) (sq_e e)
lies_sq {x} {u} (ends a b g) h t =
    let p = h t in
    record { same = ap (λ u. u *ℤ u) p.same; low = max_least (pos 0) (lo* a b a b) (u *ℤ u) (sq u) (mul_low p.low p.high p.low p.high); high = mul_high p.low p.high p.low p.high }

pub lies_quot : {x u : ℤ} (n : ℕ) (e : Ends) → (T (good e) → Lies x u e) → T (good (quot_e n e)) → Lies (quot_z x (pos n)) (quot_z u (pos n)) (quot_e n e)
lies_quot n (ends a b g) h t =
    let s = and_yes (ltb 0 n) g t in
    let p = h s.1 in
    let k = ltb→lt 0 n s.0 in
    record { same = ap (λ u. quot_z u (pos n)) p.same; low = quot-mono n k p.low; high = quot-mono n k p.high }

pub lies_rem : {x u : ℤ} (n : ℕ) (e : Ends) → (T (good e) → Lies x u e) → T (good (rem_e n e)) → Lies (rem_z x (pos n)) (rem_z u (pos n)) (rem_e n e)
lies_rem n (ends a b g) h t =
    let s = and_yes (ltb 0 n) g t in
    let p = h s.1 in
    let k = ltb→lt 0 n s.0 in
    record { same = ap (λ u. rem_z u (pos n)) p.same; low = rem-low n k p.low; high = rem-high n k p.high }

mag_fits : (w : Width) (z : ℤ) → negsuc (2 ^ hbits w - 1) ≤ℤ z → z ≤ℤ pos (2 ^ hbits w - 1) → mag z < 2 ^ hbits w
mag_fits w (pos n) h k = omega (linear, pow_pos (hbits w))
mag_fits w (negsuc n) h k = omega (linear, pow_pos (hbits w))

pub fits_lies : (w : Width) {x u : ℤ} (e : Ends) → (T (good e) → Lies x u e) → T (good (bits_e w e)) → SFits w x
fits_lies w {x} {u} (ends a b g) h t =
    let s = and_yes (inside (negsuc (2 ^ hbits w - 1)) (pos (2 ^ hbits w - 1)) a b) g t in
    let i = and_yes (le_z (negsuc (2 ^ hbits w - 1)) a) (le_z b (pos (2 ^ hbits w - 1))) s.0 in
    let p = h s.1 in
    let f : SFits w u = record { sfits = mag_fits w u (≤ℤ-trans (le_z_yes i.0) p.low) (≤ℤ-trans p.high (le_z_yes i.1)) } in
    subst (λ z. SFits w z) (sym p.same) f

pub lies_bits : (w : Width) {x u : ℤ} (e : Ends) → (T (good e) → Lies x u e) → T (good (bits_e w e)) → Lies (to_z w (of_z w x)) u (bits_e w e)
lies_bits w (ends a b g) h t =
    let s = and_yes (inside (negsuc (2 ^ hbits w - 1)) (pos (2 ^ hbits w - 1)) a b) g t in
    let p = h s.1 in
    record { same = to_z-of_z (fits_lies w (ends a b g) h t) ∙ p.same; low = p.low; high = p.high }
