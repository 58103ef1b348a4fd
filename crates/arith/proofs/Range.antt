-- The range of a signed expression of the code, computed: `search shapes depth 60 fits 20000` finds it, from the ranges of its variables. Assumes nothing.
-- The code's values go through their bits, `to_z w (of_z w z)`. A range has the plain value `v` beside it, without those steps.
use mathlib.Core.Path.{◌≡◌, refl, ◌∙◌}
use mathlib.Core.Bool.{true}
use mathlib.Core.List.{List, [], ◌∷◌}
use Prim.Native.Nat.{ℕ, zero, suc, ◌-◌, ◌≤◌, ◌<◌, ◌^◌}
use native.Mathlib.Nat.{lt_of_le_of_lt}
use lib.Dec.{T, ltb, ltb→lt}
use lib.IntN.{ℤ, pos, negsuc, neg_ℤ, ◌+ℤ◌, ◌-ℤ◌, ◌*ℤ◌}
use lib.ListN.{get_or}
use lib.Signed.{mag, quot_z, rem_z, ◌≤ℤ◌, ≤ℤ_refl}
use mir.Syntax.{Width}
use mir.Val.{SFits, hbits, to_z, of_z}
use mir.Facts.{to_z_pos}
use Rattle.arith.proofs.Parts.{neg_parts, linear}
use Rattle.arith.proofs.Order.{≤ℤ-trans}
use Rattle.arith.proofs.Interval.{minℤ, min_left, min_right, maxℤ, max_left, max_right}
use Rattle.arith.proofs.Cert.{num}
use Rattle.arith.proofs.Quot.{quot-error}
use Rattle.arith.proofs.Ends.{Ends, ends, good, Lies, add_e, neg_e, mul_e, sq_e, quot_e, rem_e, bits_e, lies_add, lies_neg, lies_mul, lies_sq, lies_quot, lies_rem, lies_bits}
pub use Rattle.arith.specs.Bounds.{Within}

pub record Range (z : ℤ) : Type 0 where
  pub v : ℤ
  pub e : Ends
  pub lies : T (good e) → Lies z v e

pub residual_lies : (n : ℕ) (a : ℤ) → T (ltb 0 n) → Lies (a -ℤ pos n *ℤ quot_z a (pos n)) (a -ℤ pos n *ℤ quot_z a (pos n)) (ends (neg_ℤ (pos (n - 1))) (pos (n - 1)) (ltb 0 n))
residual_lies n a t =
    let k = ltb→lt 0 n t in
    let h = quot-error n k a in
    record { same = refl; low = omega (linear, neg_parts (pos n), neg_parts (pos (n - 1))); high = omega linear }

-- ---- the rules, by the shape of an expression

abbrev pub r_add : {x y : ℤ} → Range x → Range y → Range (x +ℤ y)
r_add a b = record { v = a.v +ℤ b.v; e = add_e a.e b.e; lies = lies_add a.e b.e a.lies b.lies }

abbrev pub r_neg : {x : ℤ} → Range x → Range (neg_ℤ x)
r_neg a = record { v = neg_ℤ a.v; e = neg_e a.e; lies = lies_neg a.e a.lies }

abbrev pub r_sub : {x y : ℤ} → Range x → Range y → Range (x -ℤ y)
r_sub a b = r_add a (r_neg b)

abbrev pub r_mul : {x y : ℤ} → Range x → Range y → Range (x *ℤ y)
r_mul a b = record { v = a.v *ℤ b.v; e = mul_e a.e b.e; lies = lies_mul a.e b.e a.lies b.lies }

-- a square, which is not negative
abbrev pub r_sq : {x : ℤ} → Range x → Range (x *ℤ x)
r_sq a = record { v = a.v *ℤ a.v; e = sq_e a.e; lies = lies_sq a.e a.lies }

abbrev pub r_quot : {x : ℤ} (n : ℕ) → Range x → Range (quot_z x (pos n))
r_quot n a = record { v = quot_z a.v (pos n); e = quot_e n a.e; lies = lies_quot n a.e a.lies }

abbrev pub r_rem : {x : ℤ} (n : ℕ) → Range x → Range (rem_z x (pos n))
r_rem n a = record { v = rem_z a.v (pos n); e = rem_e n a.e; lies = lies_rem n a.e a.lies }

abbrev pub r_bits : (w : Width) {x : ℤ} → Range x → Range (to_z w (of_z w x))
r_bits w a = record { v = a.v; e = bits_e w a.e; lies = lies_bits w a.e a.lies }

-- what a division leaves, a - n (a / n), whatever a is
abbrev pub r_residual : (n : ℕ) (a : ℤ) → Range (a -ℤ pos n *ℤ quot_z a (pos n))
r_residual n a = record { v = a -ℤ pos n *ℤ quot_z a (pos n); e = ends (neg_ℤ (pos (n - 1))) (pos (n - 1)) (ltb 0 n); lies = residual_lies n a }

-- ---- variables: from two bounds, a contract, its type, an equation; numerals

abbrev pub between : {z l h : ℤ} → l ≤ℤ z → z ≤ℤ h → Range z
between {z} {l} {h} p q = record { v = z; e = ends l h true; lies = λ t. record { same = refl; low = p; high = q } }

abbrev pub within : {z l h : ℤ} → Within l h z → Range z
within p = between p.low p.high

pub sfits_low : (w : Width) (z : ℤ) → mag z < 2 ^ hbits w → negsuc (2 ^ hbits w - 1) ≤ℤ z
sfits_low w (pos n) h = omega linear
sfits_low w (negsuc n) h = omega linear

pub sfits_high : (w : Width) (z : ℤ) → mag z < 2 ^ hbits w → z ≤ℤ pos (2 ^ hbits w - 1)
sfits_high w (pos n) h = omega linear
sfits_high w (negsuc n) h = omega linear

abbrev pub any : {w : Width} {z : ℤ} → SFits w z → Range z
any {w} {z} f = between (sfits_low w z f.sfits) (sfits_high w z f.sfits)

-- a result, from what its function ensures of it
abbrev pub via : {z u : ℤ} → z ≡ u → Range u → Range z
via p r = record { v = r.v; e = r.e; lies = λ t. let q = r.lies t in record { same = p ∙ q.same; low = q.low; high = q.high } }

abbrev pub lit : (z : ℤ) → Range z
lit z = between (≤ℤ_refl z) (≤ℤ_refl z)

abbrev pub r_pos : {n : ℕ} → Range (pos n)
r_pos {n} = lit (pos n)

abbrev pub r_negsuc : {n : ℕ} → Range (negsuc n)
r_negsuc {n} = lit (negsuc n)

pub nat_high : {n m : ℕ} → n ≤ m → pos n ≤ℤ pos m
nat_high h = omega linear

pub bits_same : (w : Width) (n m : ℕ) → n ≤ m → T (ltb m (2 ^ hbits w)) → to_z w n ≡ pos n
bits_same w n m h t = to_z_pos w (lt_of_le_of_lt h (ltb→lt m (2 ^ hbits w) t))

-- an unsigned number at most m, as a signed one, and by its bits
abbrev pub nat : {n m : ℕ} → n ≤ m → Range (pos n)
nat {n} {m} h = between (num n) (nat_high h)

abbrev pub nat_bits : (w : Width) {n m : ℕ} → n ≤ m → Range (to_z w n)
nat_bits w {n} {m} h = record { v = pos n; e = ends (pos 0) (pos m) (ltb m (2 ^ hbits w)); lies = λ t. record { same = bits_same w n m h t; low = num n; high = nat_high h } }

-- an entry of a table, between its least and its largest
abbrev pub least : List ℤ → ℤ → ℤ
least [] d = d
least (x ∷ xs) d = minℤ x (least xs d)

abbrev pub largest : List ℤ → ℤ → ℤ
largest [] d = d
largest (x ∷ xs) d = maxℤ x (largest xs d)

pub table_low : (xs : List ℤ) (i : ℕ) (d : ℤ) → least xs d ≤ℤ get_or xs i d
table_low [] i d = ≤ℤ_refl d
table_low (x ∷ xs) zero d = min_left x (least xs d)
table_low (x ∷ xs) (suc i) d = ≤ℤ-trans (min_right x (least xs d)) (table_low xs i d)

pub table_high : (xs : List ℤ) (i : ℕ) (d : ℤ) → get_or xs i d ≤ℤ largest xs d
table_high [] i d = ≤ℤ_refl d
table_high (x ∷ xs) zero d = max_left x (largest xs d)
table_high (x ∷ xs) (suc i) d = ≤ℤ-trans (table_high xs i d) (max_right x (largest xs d))

abbrev pub r_table : (xs : List ℤ) (i : ℕ) (d : ℤ) → Range (get_or xs i d)
r_table xs i d = between {l = least xs d} {h = largest xs d} (table_low xs i d) (table_high xs i d)

-- the rules by shape, with the range of each variable a hypothesis: `let x = within c.pre in fits (search shapes depth 60 fits 20000) tt`
pub ruleset shapes = (r_table, r_residual, r_bits, r_quot, r_rem, r_sq, r_mul, r_add, r_neg, r_pos, r_negsuc)

-- the same, with the range of a variable found in the fields of what a need is handed: for a short expression
pub ruleset ranges = (shapes, within, via, any)
