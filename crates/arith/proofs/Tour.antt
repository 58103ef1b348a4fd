-- Each tool at work, as docs/PROOFS.md shows it: one small example of each. Assumes nothing.
use mathlib.Core.Path.{◌≡◌, refl, sym}
use mathlib.Core.Bool.{true, false, cond, ◌&&◌}
use mathlib.Core.List.{[], ◌∷◌, replicate}
use mathlib.Core.Logic.{⊎_elim}
use Prim.Native.Nat.{ℕ, ◌*◌, ◌^◌, ◌≤◌, ◌<◌}
use lib.Dec.{T, lit<}
use lib.IntN.{ℤ, pos, negsuc, neg_ℤ, nat_abs, ◌+ℤ◌, ◌-ℤ◌, ◌*ℤ◌}
use lib.ListN.{get_or}
use lib.Signed.{mag, le_z, lt_z, non_neg, ◌≤ℤ◌, ◌<ℤ◌, quot_z, rem_z, lt_z_yes, le_z_yes}
use mir.Syntax.{w32, w64}
use mir.Val.{Fits, SFits, to_z, of_z}
use Rattle.arith.specs.Bounds.{Within, size_up_to}
use Rattle.arith.proofs.Choose.{choose}
use Rattle.arith.proofs.Laws.{*ℤ-distribˡ, *ℤ-distribʳ, *ℤ-assoc}
use Rattle.arith.proofs.Quote.{ring!, quote, quote-nat, q_pos}
use Rattle.arith.proofs.Parts.{linear, add_parts, sub_parts, neg_parts, mul_parts}
use Rattle.arith.proofs.Order.{≤ℤ-total, ≤ℤ-<ℤ-trans, <ℤ→≤ℤ, lt_true, lt_false, true_lt, abs-*, abs_size, size_abs, within_true}
use Rattle.arith.proofs.Tests.{said, facts}
use Rattle.arith.proofs.Cert.{◌⊞◌, ◌⊠◌, ◌·◌, sq, num, gap, gap<, nonneg_by, le_by, lt_by, le_by*, eq_by, ◌⊹◌, ◌⊛◌, *ℤ-monoˡ, *ℤ-cancelˡ-≤}
use Rattle.arith.proofs.Quot.{quot-neg, quot-*ˡ, quot-nonneg, quot-nonpos, quot-mono, quot-step, quot-≤, quot_unique, quot-rem, quot-abs-≤, rem-high}
use Rattle.arith.proofs.Size.{Size, size_wider, size-+, size_neg, size-*, size_by, size_root, size_quot, quot-size, size_step}
use Rattle.arith.proofs.Interval.{maxℤ, max_least}
use Rattle.arith.proofs.Sweep.{sweep}
use Rattle.arith.proofs.Fits.{ranges, shapes, fits, plain, div_fits, inside_of, by_plain, within, any, nat_bits, unsigned, lit, param, bounded, back, r_sub, r_mul, r_quot, lt_yes, lt_no, guarded, eq_yes, cast_fits, cast_is}

-- ---- equations

square_of-sum : (x y : ℤ) → (x +ℤ y) *ℤ (x +ℤ y) ≡ x *ℤ x +ℤ pos 2 *ℤ x *ℤ y +ℤ y *ℤ y
square_of-sum x y = ring! (x ∷ y ∷ []) (search quote depth 40) tt

quotient_as_variable : (a b : ℤ) → (quot_z a b +ℤ a) *ℤ (quot_z a b -ℤ a) ≡ quot_z a b *ℤ quot_z a b -ℤ a *ℤ a
quotient_as_variable a b = ring! (quot_z a b ∷ a ∷ []) (search quote depth 40) tt

naturals_as_variables : (m n : ℕ) (x : ℤ) → (pos m +ℤ pos n) *ℤ (x +ℤ pos 5) ≡ pos m *ℤ x +ℤ pos n *ℤ x +ℤ pos 5 *ℤ (pos n +ℤ pos m)
naturals_as_variables m n x = ring! (pos m ∷ pos n ∷ x ∷ []) (search (quote-nat, q_pos 5) depth 40) tt

multiplied_out : (a b c d : ℤ) → a *ℤ (b +ℤ c) *ℤ d ≡ a *ℤ (b *ℤ d) +ℤ a *ℤ (c *ℤ d)
multiplied_out a b c d = simp (*ℤ-distribˡ, *ℤ-distribʳ, *ℤ-assoc)

equation_from_equations : (x y z : ℤ) → x *ℤ x ≡ y → y +ℤ z ≡ pos 5 → x *ℤ x *ℤ x +ℤ x *ℤ z ≡ pos 5 *ℤ x
equation_from_equations x y z e f = eq_by (x ⊛ e ⊹ x ⊛ f) (ring! (x ∷ y ∷ z ∷ []) (search quote depth 40) tt)

-- ---- orders

linear_fact : (a b c : ℤ) → a ≤ℤ b → (b +ℤ pos 3) ≤ℤ c → (a -ℤ c) <ℤ negsuc 1
linear_fact a b c h k = omega (linear, add_parts b (pos 3), sub_parts a c)

linear_multiple : (a b : ℤ) → (pos 3 *ℤ a) <ℤ (pos 3 *ℤ b) → neg_ℤ b <ℤ neg_ℤ a
linear_multiple a b h = omega (linear, mul_parts 3 a, mul_parts 3 b, neg_parts a, neg_parts b)

square_is_nonneg : (x y : ℤ) → (pos 4 *ℤ (x *ℤ y)) ≤ℤ ((x +ℤ y) *ℤ (x +ℤ y))
square_is_nonneg x y = le_by (sq (x -ℤ y)) (ring! (x ∷ y ∷ []) (search quote depth 40) tt)

weighted_sum : (x y : ℤ) → pos 1 ≤ℤ x → x ≤ℤ y → (x +ℤ pos 3) ≤ℤ (pos 2 *ℤ x +ℤ pos 2 *ℤ y)
weighted_sum x y h k = le_by (3 · gap h ⊞ 2 · gap k) (ring! (x ∷ y ∷ []) (search quote depth 40) tt)

product_of_gaps : (x y : ℤ) → pos 2 ≤ℤ x → pos 3 <ℤ y → (x *ℤ pos 4 +ℤ y *ℤ pos 2) ≤ℤ (x *ℤ y +ℤ pos 8)
product_of_gaps x y h k = le_by (gap h ⊠ gap< k) (ring! (x ∷ y ∷ []) (search quote depth 40) tt)

strict_product : (x y : ℤ) → pos 0 <ℤ x → pos 0 <ℤ y → (x +ℤ y) <ℤ (x *ℤ y +ℤ pos 2)
strict_product x y h k = lt_by (gap< h ⊠ gap< k) (ring! (x ∷ y ∷ []) (search quote depth 40) tt)

product_of_bounded : (x y : ℤ) → x ≤ℤ pos 9 → negsuc 8 ≤ℤ x → y ≤ℤ pos 7 → negsuc 6 ≤ℤ y → (x *ℤ y) ≤ℤ pos 63
product_of_bounded x y a b c d = le_by* 2 tt (gap a ⊠ gap d ⊞ gap b ⊠ gap c) (ring! (x ∷ y ∷ []) (search quote depth 40) tt)

order_from_orders : (a b c : ℤ) → a ≤ℤ b → b <ℤ c → a ≤ℤ c
order_from_orders a b c h k = <ℤ→≤ℤ (≤ℤ-<ℤ-trans h k)

factor_kept : (k a b : ℤ) → pos 0 ≤ℤ k → a ≤ℤ b → (k *ℤ a) ≤ℤ (k *ℤ b)
factor_kept k a b p h = *ℤ-monoˡ k p h

factor_cancelled : (k a b : ℤ) → pos 0 <ℤ k → (k *ℤ a) ≤ℤ (k *ℤ b) → a ≤ℤ b
factor_cancelled k a b p h = *ℤ-cancelˡ-≤ k p h

by_sign : (a : ℤ) → pos 0 ≤ℤ (a *ℤ quot_z a (pos 8))
by_sign a = ⊎_elim
    (λ h. h ⊠ (quot-nonneg 8 (lit< tt) a h).0)
    (λ h. nonneg_by (gap h ⊠ gap (quot-nonpos 8 (lit< tt) a h).0) (ring! (a ∷ quot_z a (pos 8) ∷ []) (search quote depth 40) tt))
    (≤ℤ-total (pos 0) a)

-- ---- sizes

size_of_turn : (x v s c : ℤ) → Size (pos 100) x → Size (pos 100) v → Size (pos 8) s → Size (pos 8) c → Size (pos 1600) (x *ℤ c -ℤ v *ℤ s)
size_of_turn x v s c hx hv hs hc = size-+ (size-* hx hc) (size_neg (size-* hv hs))

wider : (a : ℤ) → Size (pos 5) a → Size (pos 7) a
wider a h = size_wider (le_z_yes tt) h

size_by_a_multiple : (a e f : ℤ) → Size (pos 5) e → Size (pos 6) f → pos 3 *ℤ a ≡ e +ℤ f → Size (pos 4) a
size_by_a_multiple a e f he hf p = size_by (pos 3) (lt_z_yes tt) (size-+ he hf) (num 1) refl (sym p)

size_from_square : (a : ℤ) → (a *ℤ a) ≤ℤ pos 60 → Size (pos 7) a
size_from_square a h = size_root (num 7) (omega linear)

size_as_magnitude : (z w : ℤ) → nat_abs z ≤ 7 → Size (pos 2) w → nat_abs (z *ℤ w) ≤ 14
size_as_magnitude z w h k = size_abs {z = z *ℤ w} {m = 14} (size-* (abs_size {z = z} h) k)

magnitude_of_product : (a b : ℤ) → nat_abs (a *ℤ b) ≡ nat_abs a * nat_abs b
magnitude_of_product a b = abs-* a b

-- ---- quotients toward zero

mirrored : (a : ℤ) → quot_z (neg_ℤ a) (pos 10) ≡ neg_ℤ (quot_z a (pos 10))
mirrored a = quot-neg a 10

quotient_of_multiple : (k : ℤ) → quot_z (pos 10 *ℤ k) (pos 10) ≡ k
quotient_of_multiple k = quot-*ˡ 10 k (lit< tt)

quotient_bounds : (a : ℤ) → pos 0 ≤ℤ a → ((pos 10 *ℤ quot_z a (pos 10)) ≤ℤ a) × (a <ℤ (pos 10 *ℤ quot_z a (pos 10) +ℤ pos 10))
quotient_bounds a h = let n = quot-nonneg 10 (lit< tt) a h in (n.1, n.2)

quotient_keeps_order : (a c : ℤ) → a ≤ℤ c → quot_z a (pos 10) ≤ℤ quot_z c (pos 10)
quotient_keeps_order a c h = quot-mono 10 (lit< tt) h

quotient_of_a_step : (a c : ℤ) → a ≤ℤ c → c ≤ℤ (a +ℤ pos 30) → Within (pos 0) (pos 3) (quot_z c (pos 10) -ℤ quot_z a (pos 10))
quotient_of_a_step a c h k = quot-step 10 (lit< tt) h k

size_of_a_step : (a c : ℤ) → Size (pos 30) (c -ℤ a) → Size (pos 3) (quot_z c (pos 10) -ℤ quot_z a (pos 10))
size_of_a_step a c h = size_step 10 (lit< tt) a c h

quotient_at_most : (a : ℤ) → a ≤ℤ pos 70 → quot_z a (pos 10) ≤ℤ pos 7
quotient_at_most a h = quot-≤ 10 (lit< tt) h

size_of_quotient : (a : ℤ) → Size (pos 70) a → Size (pos 7) (quot_z a (pos 10))
size_of_quotient a h = quot-size 10 (lit< tt) h

quotient_is : (a q : ℤ) → pos 0 ≤ℤ a → (pos 10 *ℤ q) ≤ℤ a → a <ℤ (pos 10 *ℤ q +ℤ pos 10) → quot_z a (pos 10) ≡ q
quotient_is a q n l h = quot_unique 10 (lit< tt) n l h

rounding_error : (a : ℤ) → Size (pos 10) (a -ℤ pos 10 *ℤ quot_z a (pos 10))
rounding_error a = size_quot 10 (lit< tt) a

magnitude_of_quotient : (a : ℤ) → nat_abs a ≤ 70 → nat_abs (quot_z a (pos 10)) ≤ 7
magnitude_of_quotient a h = quot-abs-≤ 10 (lit< tt) a 7 h

quotient_and_remainder : (a : ℤ) → pos 10 *ℤ quot_z a (pos 10) +ℤ rem_z a (pos 10) ≡ a
quotient_and_remainder a = quot-rem a 10

remainder_at_most : (a : ℤ) → a ≤ℤ pos 25 → rem_z a (pos 10) ≤ℤ pos 9
remainder_at_most a h = rem-high 10 (lit< tt) h

-- ---- tests

test_as_fact : (a b : ℤ) → lt_z a b ≡ true → a <ℤ b
test_as_fact a b e = lt_true e

fact_as_test : (a b : ℤ) → a <ℤ b → lt_z a b ≡ true
fact_as_test a b h = true_lt h

size_from_test : (z : ℤ) → size_up_to 7 z ≡ true → Size (pos 7) z
size_from_test z e = within_true e

test_of_parts : (a b : ℤ) → (le_z (pos 5) a && le_z a b && lt_z b (pos 9)) ≡ true → Within (pos 5) (pos 8) a
test_of_parts a b e = let f = facts e (search said depth 9) in omega linear

chosen_by_test : (a : ℤ) → pos 0 ≤ℤ cond (lt_z a (pos 0)) (neg_ℤ a) a
chosen_by_test a = choose (λ z. pos 0 ≤ℤ z) (lt_z a (pos 0)) (neg_ℤ a) a
    (λ e. let h = lt_true {a = a} {b = pos 0} e in omega (linear, neg_parts a)) (λ e. lt_false e)

-- ---- a polynomial on an interval

larger_of_two : (a b z : ℤ) → a ≤ℤ z → b ≤ℤ z → maxℤ a b ≤ℤ z
larger_of_two a b z h k = max_least a b z h k

polynomial_on_interval : (x : ℤ) → pos 0 ≤ℤ x → x ≤ℤ pos 1600 → (x *ℤ (pos 1600 -ℤ x)) ≤ℤ pos 700000
polynomial_on_interval x h k = sweep (pos 0) (replicate 8 100) (search quote depth 40) tt h k

-- ---- ranges, and the needs of signed code

product_fits : (x y : ℤ) → Size (pos 1073741824) x → Size (pos 1073741824) y → SFits w64 (x *ℤ y)
product_fits x y hx hy = fits (search ranges depth 9) tt

scaled_product_fits : (x y : ℤ) → Size (pos 1073741824) x → Size (pos 1073741824) y → SFits w64 (quot_z (x *ℤ y) (pos 1073741824))
scaled_product_fits x y hx hy = fits (r_quot 1073741824 (r_mul (within hx) (within hy))) tt

product_read_fits : (x y : ℤ) → Size (pos 1073741824) x → Size (pos 1073741824) y → SFits w64 (to_z w64 (of_z w64 x) *ℤ to_z w64 (of_z w64 y))
product_read_fits x y hx hy = fits (r_mul (bounded w64 hx) (bounded w64 hy)) tt

difference_fits : (a b : ℤ) → SFits w32 a → SFits w32 b → SFits w64 (a -ℤ b)
difference_fits a b f g = fits (r_sub (any f) (any g)) tt

division_fits : (x : ℤ) → Size (pos 1000) x → (0 < 7) × SFits w64 (quot_z (x *ℤ pos 3) (pos 7))
division_fits x h = div_fits (search ranges depth 9) tt

long_expression_fits : (x : ℤ) → Size (pos 1000) x → SFits w64 (pos 5 -ℤ quot_z (x *ℤ (pos 8 -ℤ quot_z (x *ℤ x) (pos 64))) (pos 64))
long_expression_fits x h = let r = within h in fits (search shapes depth 60 fits 20000) tt

plain_value : (a b : ℤ) → SFits w32 a → SFits w32 b → to_z w64 (of_z w64 (to_z w64 (of_z w64 a) *ℤ to_z w64 (of_z w64 b))) ≡ a *ℤ b
plain_value a b f g = plain (search ranges depth 9) tt

value_within : (x : ℤ) → Size (pos 100) x → Within (pos 0) (pos 10000) (to_z w64 (of_z w64 (x *ℤ x)))
value_within x h = inside_of (search ranges depth 9) tt

value_at-least : (a : ℤ) → Within (pos 0) (pos 1000) a → pos 3 ≤ℤ to_z w64 (of_z w64 (a +ℤ pos 3))
value_at-least a h = by_plain (λ z. pos 3 ≤ℤ z) (search ranges depth 9) tt (omega (linear, h.low, add_parts a (pos 3)))

result_of_call : (r x : ℤ) → r ≡ quot_z (x *ℤ x) (pos 64) → Size (pos 1000) x → SFits w32 (r -ℤ x)
result_of_call r x e h = fits (search ranges depth 9) tt

result_read_back : (r : ℤ) → mag r < 2 ^ 63 → to_z w64 (of_z w64 r) ≡ r
result_read_back r h = back w64 r h

unsigned-as_signed : (n : ℕ) → Fits w32 n → SFits w64 (to_z w64 n -ℤ pos 1000)
unsigned-as_signed n f = let r = unsigned w64 f in fits (search ranges depth 9) tt

unsigned-with_bound : (n : ℕ) → n ≤ 999 → SFits w32 (to_z w32 n *ℤ pos 1000)
unsigned-with_bound n h = let r = nat_bits w32 h in fits (search ranges depth 9) tt

entry_of_table : (i : ℕ) (x : ℤ) → Size (pos 1000) x → SFits w32 (get_or (pos 5 ∷ negsuc 6 ∷ pos 12 ∷ []) i (pos 0) *ℤ x)
entry_of_table i x h = let r = within h in fits (search shapes depth 9) tt

sum_of_errors : (a b : ℤ) → Size (pos 27) ((a -ℤ pos 10 *ℤ quot_z a (pos 10)) +ℤ pos 2 *ℤ (b -ℤ pos 10 *ℤ quot_z b (pos 10)))
sum_of_errors a b = inside_of (search shapes depth 9) tt

comparison_taken : (a b : ℤ) → SFits w64 a → SFits w64 b → lt_z (to_z w64 (of_z w64 a)) (to_z w64 (of_z w64 b)) ≡ true → a <ℤ b
comparison_taken a b f g e = lt_yes (param f) (param g) e tt

comparison_left : (a : ℤ) → SFits w64 a → lt_z (to_z w64 (of_z w64 a)) (pos 7) ≡ false → pos 7 ≤ℤ a
comparison_left a f e = lt_no (param f) (lit (pos 7)) e tt

after_a_guard : (a : ℤ) → SFits w64 a → lt_z (to_z w64 (of_z w64 a)) (negsuc 99) ≡ false → lt_z (pos 100) (to_z w64 (of_z w64 a)) ≡ false → SFits w64 (a *ℤ a)
after_a_guard a f l h = fits (search (guarded, shapes) depth 9) tt

equal_bits : (a b : ℤ) → SFits w64 a → SFits w64 b → of_z w64 a ≡ of_z w64 b → a ≡ b
equal_bits a b f g e = eq_yes f g e

cast_to_unsigned : (a : ℤ) → Within (pos 0) (pos 1000) a → T (non_neg (a +ℤ pos 1)) × Fits w64 (nat_abs (a +ℤ pos 1))
cast_to_unsigned a h = cast_fits {z = a +ℤ pos 1} (search ranges depth 9) tt

value_of_cast : (a : ℤ) → Within (pos 0) (pos 1000) a → pos (nat_abs (to_z w64 (of_z w64 (a +ℤ pos 1)))) ≡ a +ℤ pos 1
value_of_cast a h = cast_is {z = to_z w64 (of_z w64 (a +ℤ pos 1))} (search ranges depth 9) tt
