-- What the range of a value closes: that it fits its type, that it is a plain number, its bounds, what a test says, a cast. Assumes nothing.
-- `fits (search ranges depth 9) tt` answers the need of a sum, a difference, a product or a cast between signed types, `div-fits` that of a division, and `plain` that a result is what the contract says.
use mathlib.Core.Path.{◌≡◌, sym, ◌∙◌, ap, subst}
use mathlib.Core.Bool.{Bool, true, false, ◌&&◌, true≢false}
use Prim.Native.Nat.{ℕ, ◌-◌, ◌<◌, ◌^◌}
use lib.Dec.{T, ltb, ltb→lt, eqb}
use borrow.Author.Tests.{eq-eqb, ne_eqb}
use lib.IntN.{ℤ, pos, negsuc, nat_abs}
use lib.Signed.{mag, non_neg, le_z, lt_z, ◌≤ℤ◌, ◌<ℤ◌, le_z_yes, yes_non_neg, pos-nat_abs}
use lib.Pow.{pow_pos, le_ones}
use mir.Syntax.{Width}
use mir.Val.{SFits, Fits, bits, hbits, to_z, of_z}
use mir.Facts.{to_z-of_z, and_yes}
use Rattle.arith.proofs.Choose.{by_test}
use Rattle.arith.proofs.Parts.{linear}
use Rattle.arith.specs.Bounds.{is_within}
use Rattle.arith.proofs.Order.{≤ℤ-trans, ≤ℤ-antisymm, within_true, true_within, lt_true, lt_false, le_true, le_false}
use Rattle.arith.proofs.Ends.{Ends, ends, lo, good, inside, bits_e, Lies, fits_lies}
pub use Rattle.arith.proofs.Range.{Range, Within, shapes, ranges, between, within, via, any, nat, nat_bits, lit, r_bits, r_add, r_neg, r_sub, r_mul, r_quot, r_rem}

pub fits : {w : Width} {z : ℤ} (r : Range z) → T (good (bits_e w r.e)) → SFits w z
fits {w} r t = fits_lies w r.e r.lies t

-- the value without its steps through bits
pub plain : {z : ℤ} (r : Range z) → T (good r.e) → z ≡ r.v
plain r t = (r.lies t).same

-- what a division asks: that the divisor is not 0, and that the quotient fits
pub div_fits : {b : ℕ} {w : Width} {z : ℤ} (r : Range z) → T (ltb 0 b && good (bits_e w r.e)) → (0 < b) × SFits w z
div_fits {b} {w} r t = let g = and_yes (ltb 0 b) (good (bits_e w r.e)) t in (ltb→lt 0 b g.0, fits r g.1)

-- bounds of the value, as a contract states them: those of the range, or wider ones
abbrev pub inside_e : ℤ → ℤ → Ends → Bool
inside_e l h (ends a b g) = inside l h a b && g

lies_inside : {z v l h : ℤ} (e : Ends) → (T (good e) → Lies z v e) → T (inside_e l h e) → Within l h z
lies_inside {z} {v} {l} {h} (ends a b g) k t =
    let s = and_yes (inside l h a b) g t in
    let i = and_yes (le_z l a) (le_z b h) s.0 in
    let p = k s.1 in
    record { low = rw p.same (≤ℤ-trans (le_z_yes i.0) p.low); high = rw p.same (≤ℤ-trans p.high (le_z_yes i.1)) }

pub inside_of : {z l h : ℤ} (r : Range z) → T (inside_e l h r.e) → Within l h z
inside_of r t = lies_inside r.e r.lies t

-- what holds of the plain value holds of the value
pub by_plain : (P : ℤ → Type 0) {z : ℤ} (r : Range z) → T (good r.e) → P r.v → P z
by_plain P r t h = subst P (sym (plain r t)) h

-- ---- a test of the code, as a fact of the plain values: `lt_no (param c.fits.a) (lit (pos 7)) c.if1.left tt : pos 7 ≤ℤ c.args.a`

-- a parameter as the code reads it, by its type, and by a bound
abbrev pub param : {w : Width} {z : ℤ} → SFits w z → Range (to_z w (of_z w z))
param f = via (to_z-of_z f) (any f)

abbrev pub bounded : (w : Width) {l h z : ℤ} → Within l h z → Range (to_z w (of_z w z))
bounded w k = r_bits w (within k)

-- a call's result as the code reads it, by the bare bound that a need has of it: `back w64 c.f.result c.f.ok`
pub back : (w : Width) (z : ℤ) → mag z < 2 ^ hbits w → to_z w (of_z w z) ≡ z
back w z h = to_z-of_z {w = w} (record { sfits = h })

-- an unsigned number, cast to a signed type that is wider
abbrev pub unsigned : (w : Width) {u : Width} {n : ℕ} → Fits u n → Range (to_z w n)
unsigned w {u} f = nat_bits w (le_ones (bits u) f.fits)

module _ {x y : ℤ} (r : Range x) (s : Range y) where
  pub lt_yes : lt_z x y ≡ true → T (good r.e && good s.e) → r.v <ℤ s.v
  lt_yes p t = let g = and_yes (good r.e) (good s.e) t in lt_true (rw (plain r g.0, plain s g.1) at p)

  pub lt_no : lt_z x y ≡ false → T (good r.e && good s.e) → s.v ≤ℤ r.v
  lt_no p t = let g = and_yes (good r.e) (good s.e) t in lt_false (rw (plain r g.0, plain s g.1) at p)

  pub le_yes : le_z x y ≡ true → T (good r.e && good s.e) → r.v ≤ℤ s.v
  le_yes p t = let g = and_yes (good r.e) (good s.e) t in le_true (rw (plain r g.0, plain s g.1) at p)

  pub le_no : le_z x y ≡ false → T (good r.e && good s.e) → s.v <ℤ r.v
  le_no p t = let g = and_yes (good r.e) (good s.e) t in le_false (rw (plain r g.0, plain s g.1) at p)

-- `a == b` tests the bits
pub eq_yes : {w : Width} {a b : ℤ} → SFits w a → SFits w b → of_z w a ≡ of_z w b → a ≡ b
eq_yes {w} f g p = sym (to_z-of_z f) ∙ ap (to_z w) p ∙ to_z-of_z g

pub eq_no : (w : Width) {a b : ℤ} → (of_z w a ≡ of_z w b → ⊥) → a ≡ b → ⊥
eq_no w k p = k (ap (of_z w) p)

-- the same of the test as a value: `a == b` is what `is_within b b a` tests
pub eq_same : {w : Width} {a b : ℤ} → SFits w a → SFits w b → eqb (of_z w a) (of_z w b) ≡ is_within b b a
eq_same {w} {a} {b} f g =
    by_test (is_within b b a)
    (λ e. let h = within_true {lo = b} {hi = b} {z = a} e in eq-eqb _ _ (ap (of_z w) (≤ℤ-antisymm h.high h.low)) ∙ sym e)
    (λ e.
    ne_eqb _ _ (λ q. let p = eq_yes f g q in true≢false (sym (true_within {lo = b} {hi = b} {z = a} (record { low = omega linear; high = omega linear })) ∙ e))
    ∙ sym e)

-- ---- the range of a parameter that was tested: `search guarded` finds the tests in what a need is handed

-- after `if a < lo || a > hi { return .. }`
abbrev pub guarded : {w : Width} {a : ℤ} (lo hi : ℤ) → SFits w a → lt_z (to_z w (of_z w a)) lo ≡ false → lt_z hi (to_z w (of_z w a)) ≡ false → Range a
guarded lo hi f l h = between (lt_no (param f) (lit lo) l tt) (lt_no (lit hi) (param f) h tt)

-- in `if a >= lo && a <= hi { .. }`
abbrev pub guarded_in : {w : Width} {a : ℤ} (lo hi : ℤ) → SFits w a → le_z lo (to_z w (of_z w a)) ≡ true → le_z (to_z w (of_z w a)) hi ≡ true → Range a
guarded_in lo hi f l h = between (le_yes (lit lo) (param f) l tt) (le_yes (param f) (lit hi) h tt)

-- ---- a cast to an unsigned type, and what it gives. The goal does not show z: write it, `cast_fits {z = ..}`

pub cast_fits : {w : Width} {z : ℤ} (r : Range z) → T (inside_e (pos 0) (pos (2 ^ bits w - 1)) r.e) → T (non_neg z) × Fits w (nat_abs z)
cast_fits {w} {z} r t = let p = inside_of {l = pos 0} {h = pos (2 ^ bits w - 1)} r t in (yes_non_neg p.low, record { fits = below z p.low p.high })
  where
    below : (z : ℤ) → pos 0 ≤ℤ z → z ≤ℤ pos (2 ^ bits w - 1) → nat_abs z < 2 ^ bits w
    below (pos n) h k = omega (linear, pow_pos (bits w))
    below (negsuc n) h k = absurd h.le

pub cast_is : {z : ℤ} (r : Range z) → T (le_z (pos 0) (lo r.e) && good r.e) → pos (nat_abs z) ≡ r.v
cast_is {z} r t =
    let g = and_yes (le_z (pos 0) (lo r.e)) (good r.e) t in
    let p = r.lies g.1 in
    pos-nat_abs z (yes_non_neg {z = z} (rw p.same (≤ℤ-trans (le_z_yes g.0) p.low))) ∙ p.same
