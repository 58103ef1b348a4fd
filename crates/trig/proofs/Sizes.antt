-- The sizes of angle, sine and cosine; a row's value is of size up to ONE, from each place of the row on. Assumes nothing.
use mathlib.Core.Path.{◌≡◌, refl}
use mathlib.Core.Bool.{Bool, true, ◌&&◌}
use mathlib.Core.Logic.{inl, inr, ⊎_elim}
use mathlib.Core.List.{List, [], ◌∷◌, ◌++◌}
use Prim.Native.Nat.{ℕ, ◌*◌, ◌≤◌}
use native.Mathlib.Nat.{mul-le-mul, le_refl}
use native.Mathlib.Omega.{arith}
use lib.Dec.{T, lit<}
use lib.IntN.{ℤ, pos, neg_ℤ, nat_abs, ◌*ℤ◌}
use lib.Signed.{◌≤ℤ◌}
use mir.Facts.{and_yes}
use Rattle.arith.specs.Bounds.{Size}
use Rattle.arith.proofs.Parts.{linear}
use Rattle.arith.proofs.Order.{size_abs, abs_size, abs-*}
use Rattle.arith.proofs.Cert.{num, *ℤ-monoʳ}
use Rattle.arith.proofs.Size.{size_wider}
use Rattle.arith.proofs.Quot.{quot-mono, quot-abs-≤}
use Rattle.arith.proofs.Fits.{Range, ranges, inside_of, inside_e, within, lit, r_sub, r_mul, r_quot}
use Rattle.trig.specs.Trig.{ONE, IsRow, IsSquare, angle_factor, angle_of, sine_row, cosine_row, square_of, series_of, sine_of, cosine_of, sine_limit}
use Rattle.trig.specs.Laws.{AngleSize, SineSize, CosineSize}
use Rattle.trig.proofs.Mirror.{angle_odd}

pub square_size : (t : ℤ) → Size (pos sine_limit) t → IsSquare (square_of t)
unfolding square_of
square_size t h = inside_of (search ranges depth 9) tt

-- ---- a row's value: its ends are computed, factor by factor

module _ (z : ℤ) (h : IsSquare z) where
  abbrev value_range : (fs : List ℕ) → Range (series_of fs z)
  unfolding series_of
  value_range [] = lit ONE
  value_range (f ∷ fs) = r_sub (lit ONE) (r_quot (1073741824 * f) (r_mul (within h) (value_range fs)))

  -- the test that it is of size up to ONE, from each place of the row on
  abbrev up_to_one : List ℕ → Bool
  up_to_one [] = true
  up_to_one (f ∷ fs) = inside_e (neg_ℤ ONE) ONE (value_range (f ∷ fs)).e && up_to_one fs

  end-size : (front fs : List ℕ) → T (up_to_one (front ++ fs)) → Size ONE (series_of fs z)
  unfolding value_range
  end-size [] [] t = inside_of (value_range []) tt
  end-size [] (f ∷ fs) t = inside_of (value_range (f ∷ fs)) (and_yes (inside_e (neg_ℤ ONE) ONE (value_range (f ∷ fs)).e) (up_to_one fs) t).0
  end-size (f ∷ front) fs t = end-size front fs (and_yes (inside_e (neg_ℤ ONE) ONE (value_range (f ∷ front ++ fs)).e) (up_to_one (front ++ fs)) t).1

-- ---- the two rows

-- the value over the end of a row
pub series-size : (front fs : List ℕ) (z : ℤ) → IsRow (front ++ fs) → IsSquare z → Size ONE (series_of fs z)
unfolding value_range
series-size front fs z e h =
    let one : (l : List ℕ) → T (up_to_one z h l) → front ++ fs ≡ l → Size ONE (series_of fs z) = λ l t i. end-size z h front fs (rw i t) in
    ⊎_elim (one sine_row tt) (one cosine_row tt) e

-- what holds of each factor of a list holds of one
abbrev Each : (ℕ → Type 0) → List ℕ → Type 0
Each P [] = Unit {0}
Each P (f ∷ fs) = P f × Each P fs

each_at : (P : ℕ → Type 0) (front : List ℕ) (f : ℕ) (fs : List ℕ) → Each P (front ++ f ∷ fs) → P f
each_at P [] f fs e = e.0
each_at P (x ∷ front) f fs e = each_at P front f fs e.1

pub factor_at : (front : List ℕ) (f : ℕ) (fs : List ℕ) → IsRow (front ++ f ∷ fs) → (2 ≤ f) × (f ≤ 156)
factor_at front f fs e = each_at (λ g. (2 ≤ g) × (g ≤ 156)) front f fs (⊎_elim (λ i. rw i (omega arith)) (λ i. rw i (omega arith)) e)

-- ---- the laws

angle_mono : {a b : ℤ} → a ≤ℤ b → angle_of a ≤ℤ angle_of b
unfolding angle_of
angle_mono h = quot-mono 1073741824 (lit< tt) (*ℤ-monoʳ (pos angle_factor) (num angle_factor) h)

pub angle_size : AngleSize
angle_size m a h = record { low = rw (← (angle_odd m)) (angle_mono h.low); high = angle_mono h.high }

pub sine-size : SineSize
unfolding sine_of
sine-size t h =
    let p = series_of sine_row (square_of t) in
    let s = series-size [] sine_row (square_of t) (inl refl) (square_size t h) in
    let k : nat_abs t * nat_abs p ≤ nat_abs t * 1073741824 = mul-le-mul (le_refl (nat_abs t)) (size_abs s) in
    abs_size (quot-abs-≤ 1073741824 (lit< tt) (t *ℤ p) (nat_abs t) (omega (arith, k, abs-* t p)))

-- so it lies in the range that it takes
pub sine-within : (t : ℤ) → Size (pos sine_limit) t → Size (pos sine_limit) (sine_of t)
sine-within t h = let k = size_abs {z = t} {m = sine_limit} h in size_wider (omega linear) (sine-size t h)

pub cosine-size : CosineSize
unfolding cosine_of
cosine-size t h = series-size [] cosine_row (square_of t) (inr refl) (square_size t h)
