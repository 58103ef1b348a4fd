-- One fact over a factor row, for sine and cosine alike: how far the computed p is from the row's value without rounding.
-- Without rounding, in fractions: h starts as N₀ / D₀; from the row's last factor to its first it becomes 1 - ζ h / factor. ζ = A / B is near z / ONE.
-- Distances are in thousandths of a ONEth, the bound m of ζ is in fifths.
use Rattle.std.specs.Prelude.{List, [], ◌∷◌, ℕ, ◌+◌, ◌*◌, ◌/◌, ◌^◌, ◌≤◌, ℤ, pos, ◌-ℤ◌, ◌*ℤ◌, ◌≤ℤ◌, ◌<ℤ◌}
use Rattle.arith.specs.Bounds.{Size}
use Rattle.trig.specs.Trig.{ONE, series_of}

-- the row's value without rounding: denominator and numerator
abbrev pub row_den : (B D₀ : ℤ) → List ℕ → ℤ
row_den B D₀ [] = D₀
row_den B D₀ (f ∷ fs) = B *ℤ pos f *ℤ row_den B D₀ fs

abbrev pub row_num : (A B N₀ D₀ : ℤ) → List ℕ → ℤ
row_num A B N₀ D₀ [] = N₀
row_num A B N₀ D₀ (f ∷ fs) = B *ℤ pos f *ℤ row_den B D₀ fs -ℤ A *ℤ row_num A B N₀ D₀ fs

-- each factor is at least 1 and at least m / 5, so that ζ / factor is at most 1
abbrev pub AtLeast : ℕ → List ℕ → Type 0
AtLeast m [] = Unit {0}
AtLeast m (f ∷ fs) = ((1 ≤ f) × (m ≤ 5 * f)) × AtLeast m fs

-- z is within u of ζ ONE, and both z / ONE and ζ lie from 0 to m / 5
pub record NearSquare (m z A B u : ℤ) : Type 0 where
  pub z_nonneg : pos 0 ≤ℤ z
  pub z_most : (pos 5 *ℤ z) ≤ℤ (m *ℤ ONE)
  pub A-nonneg : pos 0 ≤ℤ A
  pub A-most : (pos 5 *ℤ A) ≤ℤ (m *ℤ B)
  pub B-positive : pos 0 <ℤ B
  pub off : Size (u *ℤ B) (pos 1000 *ℤ (ONE *ℤ A -ℤ z *ℤ B))

-- N / D lies from 0 to 1, and p is within e of ONE N / D
pub record NearFraction (p N D e : ℤ) : Type 0 where
  pub D-positive : pos 0 <ℤ D
  pub N-nonneg : pos 0 ≤ℤ N
  pub N-most : N ≤ℤ D
  pub off : Size (e *ℤ D) (pos 1000 *ℤ (p *ℤ D -ℤ ONE *ℤ N))

-- how far p can be off: e at the start; after each factor 1000 for the division, and the next whole number above (u + m e / 5) / factor
abbrev pub row_error : (m u e : ℕ) → List ℕ → ℕ
row_error m u e [] = e
row_error m u e (f ∷ fs) = 1001 + (5 * u + m * row_error m u e fs) / (5 * f)

abbrev pub RowFact : Type 0
RowFact = (m : ℕ) (row : List ℕ) → AtLeast m row →
    (z A B : ℤ) (u : ℕ) → NearSquare (pos m) z A B (pos u) →
    (N₀ D₀ : ℤ) (e : ℕ) → NearFraction ONE N₀ D₀ (pos e) →
    NearFraction (series_of row z) (row_num A B N₀ D₀ row) (row_den B D₀ row) (pos (row_error m u e row))

-- the row without rounding may go on where the computed row starts, from ONE: with a factor f and more; how far ONE is off there
abbrev pub start_error : (m f : ℕ) → ℕ
start_error m f = 1 + 200 * m * 2 ^ 30 / f

abbrev pub LongRowFact : Type 0
LongRowFact = (m : ℕ) (row : List ℕ) → AtLeast m row → (f : ℕ) (more : List ℕ) → AtLeast m (f ∷ more) →
    (z A B : ℤ) (u : ℕ) → NearSquare (pos m) z A B (pos u) →
    let N₁ = row_num A B (pos 1) (pos 1) (f ∷ more) in
    let D₁ = row_den B (pos 1) (f ∷ more) in
    NearFraction (series_of row z) (row_num A B N₁ D₁ row) (row_den B D₁ row) (pos (row_error m u (start_error m f) row))
