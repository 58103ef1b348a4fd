-- Sine and cosine lie near the circle: they are held against the values of their rows without rounding, at t / ONE itself, and those lie near it.
-- Assumes nothing.
use mathlib.Core.List.{[], ◌∷◌}
use Prim.Native.Nat.{◌*◌, ◌^◌}
use native.Mathlib.Omega.{arith}
use lib.IntN.{ℤ, pos, ◌+ℤ◌, ◌-ℤ◌, ◌*ℤ◌}
use lib.Signed.{◌≤ℤ◌, le_z_yes, lt_z_yes}
use Rattle.arith.specs.Bounds.{Size}
use Rattle.arith.proofs.Quote.{ring!, quote}
use Rattle.arith.proofs.Parts.{linear, mul_parts}
use Rattle.arith.proofs.Cert.{◌·◌, sq, num, 0<*}
use Rattle.arith.proofs.Size.{size_by, size-+, size-*, size_scale, size_wider}
use Rattle.arith.proofs.Sweep.{sweep}
use Rattle.trig.specs.Trig.{ONE, angle_of, square_of, series_of, sine_row, cosine_row, sine_of, cosine_of}
use Rattle.trig.specs.Row.{row_num, row_den, NearSquare, NearFraction}
use Rattle.trig.specs.Laws.{NearCircle}
use Rattle.trig.proofs.Row.{num_size, row_from_one}
use Rattle.trig.proofs.NearAngle.{NearAngle, own_near_angle, sine-error}

-- ζ (p / 13 d)² + (q / d)² is within 0.05 / ONE of 1, for ζ = A / ONE²
abbrev OnCircle : (A p q d : ℤ) → Type 0
OnCircle A p q d =
    let G = ONE *ℤ (pos 13 *ℤ d) in
    Size (pos 50 *ℤ (G *ℤ G)) (pos 1000 *ℤ (ONE *ℤ (A *ℤ (p *ℤ p) +ℤ pos 169 *ℤ (ONE *ℤ ONE) *ℤ (q *ℤ q) -ℤ G *ℤ G)))

rows_on_circle : {z A u : ℤ} → NearSquare (pos 6) z A (ONE *ℤ ONE) u →
    OnCircle A (row_num A (ONE *ℤ ONE) (pos 1) (pos 1) sine_row) (row_num A (ONE *ℤ ONE) (pos 1) (pos 1) cosine_row) (row_den (ONE *ℤ ONE) (pos 1) cosine_row)
rows_on_circle {A = A} s =
    let k : A ≤ℤ pos 1383505805528216372 = omega (linear, s.A-most, mul_parts 5 A) in
    record {
      low = sweep (pos 0) (691752902764108186 ∷ []) (search quote depth 60 fits 30000) tt s.A-nonneg k;
      high = sweep (pos 0) (691752902764108186 ∷ []) (search quote depth 60 fits 30000) tt s.A-nonneg k;
    }

-- 9.8 is more than 0.05 there, 2 × 1.05 × 2.460 of the sine, 2 × 2.215 of the cosine, and the squares of their errors
squares_near : {t p q d : ℤ} → NearAngle t t ONE (pos 0) (pos 1000) → NearFraction (series_of sine_row (square_of t)) p (pos 13 *ℤ d) (pos 1390) → NearFraction (cosine_of t) q d (pos 2215) →
    OnCircle (t *ℤ t) p q d → Size (pos 49 *ℤ ONE) (pos 5 *ℤ (sine_of t *ℤ sine_of t +ℤ cosine_of t *ℤ cosine_of t -ℤ ONE *ℤ ONE))
squares_near {t} {p} {q} {d} h s c on =
    let e = sine-error h s (pos 2460) (le_z_yes tt) in
    let f = c.off in
    let G = ONE *ℤ (pos 13 *ℤ d) in
    let G-positive = 0<* {a = ONE} (lt_z_yes tt) s.D-positive in
    let on-part = size_scale (num (1000 * 2 ^ 30)) on in
    let squares-part = size-+ (size-* e e) (size_scale (num (169 * 2 ^ 60)) (size-* f f)) in
    let sine-part = size_scale (num (100 * 2 ^ 30)) (size-* e (size-* h.t_size (num_size s))) in
    let cosine-part = size_scale (num (338000 * 2 ^ 90)) (size-* f (num_size c)) in
    let ρ = sine_of t ∷ cosine_of t ∷ t ∷ p ∷ q ∷ d ∷ [] in
    size_by (pos 200000 *ℤ (G *ℤ G)) (0<* {a = pos 200000} (lt_z_yes tt) (0<* G-positive G-positive)) (size-+ (size-+ on-part squares-part) (size-+ sine-part cosine-part))
    (165356229938175 · sq G) (ring! ρ (search quote depth 40 fits 9000) tt) (ring! ρ (search quote depth 40 fits 9000) tt)

pub near_circle : NearCircle
unfolding angle_of cosine_of
near_circle t h =
    let own = own_near_angle t (size_wider (le_z_yes tt) (size_scale (num 20) h)) in
    let z = own.square in
    squares_near own (row_from_one z sine_row (omega arith)) (row_from_one z cosine_row (omega arith)) (rows_on_circle z)
