-- The computed sine and cosine against the exact ones, at an angle θ that t is near. Each exact one is the value of a long row, and the fact over a row says how far the computed one is from that.
-- Distances are in thousandths of a ONEth. Assumes nothing.
use mathlib.Core.Path.{◌≡◌}
use mathlib.Core.List.{[], ◌∷◌}
use Prim.Native.Nat.{ℕ}
use native.Mathlib.Omega.{arith}
use lib.IntN.{ℤ, pos, ◌+ℤ◌, ◌-ℤ◌, ◌*ℤ◌}
use lib.Signed.{◌≤ℤ◌, ◌<ℤ◌}
use Rattle.arith.specs.Bounds.{Size}
use Rattle.arith.proofs.Quote.{ring!, quote}
use Rattle.arith.proofs.Cert.{num, eq_by, ◌⊛◌, 0<*}
use Rattle.arith.proofs.Size.{size_by, size_scale}
use Rattle.trig.specs.Trig.{ONE, square_of, series_of, sine_row, cosine_row, sine_of, cosine_of}
use Rattle.trig.specs.Row.{row_error, start_error, NearFraction}
use Rattle.trig.specs.Exact.{Fraction, sine, cosine}
use Rattle.trig.proofs.Row.{long_row_fact}
use Rattle.trig.proofs.NearAngle.{NearAngle, sine-error}
use Rattle.trig.proofs.PowerSeries.{num_of, den_of, sine-is_row, cosine-is_row}

-- s is within e of ONE p
abbrev pub Off : (e s : ℤ) → Fraction → Type 0
Off e s p = Size (e *ℤ pos p.den) (pos 1000 *ℤ (s *ℤ pos p.den -ℤ ONE *ℤ p.num))

-- n / d for N / D, which is of the same value
same_value : (e s N D n d : ℤ) → pos 0 <ℤ D → pos 0 ≤ℤ d → n *ℤ D ≡ N *ℤ d → Size (e *ℤ D) (pos 1000 *ℤ (s *ℤ D -ℤ ONE *ℤ N)) → Size (e *ℤ d) (pos 1000 *ℤ (s *ℤ d -ℤ ONE *ℤ n))
same_value e s N D n d D-positive d-nonneg same off =
    let ρ = e ∷ s ∷ N ∷ D ∷ n ∷ d ∷ [] in
    size_by D D-positive (size_scale d-nonneg off) (num 0) (ring! ρ (search quote depth 40) tt) (eq_by ((pos 1000 *ℤ ONE) ⊛ same) (ring! ρ (search quote depth 40) tt))

-- how far the rows are off, where the square is within v; the exact rows go on with 210, .., 420 and 182, .., 462
abbrev sine_row_error : (v : ℕ) → ℕ
sine_row_error v = row_error 6 v (start_error 6 210) sine_row

abbrev cosine_row_error : (v : ℕ) → ℕ
cosine_row_error v = row_error 6 v (start_error 6 182) cosine_row

module _ (θ : Fraction) (t u : ℤ) (v : ℕ) (angle : NearAngle t θ.num (pos θ.den) u (pos v)) where
  sine_row-near : NearFraction (series_of sine_row (square_of t)) (num_of θ 1 10) (den_of θ 1 10) (pos (sine_row_error v))
  sine_row-near = long_row_fact 6 sine_row (omega arith) 210 (272 ∷ 342 ∷ 420 ∷ []) (omega arith) (square_of t) _ _ v angle.square

  cosine_row-near : NearFraction (cosine_of t) (num_of θ 0 11) (den_of θ 0 11) (pos (cosine_row_error v))
  unfolding cosine_of
  cosine_row-near = long_row_fact 6 cosine_row (omega arith) 182 (240 ∷ 306 ∷ 380 ∷ 462 ∷ []) (omega arith) (square_of t) _ _ v angle.square

  pub sine-off : (e : ℤ) → (pos 21 *ℤ pos (sine_row_error v) +ℤ pos 20 *ℤ u +ℤ pos 20000) ≤ℤ (pos 20 *ℤ e) → Off e (sine_of t) (sine θ)
  sine-off e enough =
      same_value e (sine_of t) (θ.num *ℤ num_of θ 1 10) (pos θ.den *ℤ den_of θ 1 10) (sine θ).num (pos (sine θ).den)
      (0<* angle.b_positive sine_row-near.D-positive) (num (sine θ).den) (sine-is_row θ) (sine-error angle sine_row-near e enough)

  pub cosine-off : Off (pos (cosine_row_error v)) (cosine_of t) (cosine θ)
  cosine-off =
      same_value (pos (cosine_row_error v)) (cosine_of t) (num_of θ 0 11) (den_of θ 0 11) (cosine θ).num (pos (cosine θ).den)
      cosine_row-near.D-positive (num (cosine θ).den) (cosine-is_row θ) cosine_row-near.off
