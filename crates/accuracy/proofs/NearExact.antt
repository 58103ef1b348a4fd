-- A coordinate against its exact value: less than 3 units off. Distances are in thousandths. Assumes nothing.
use mathlib.Core.Path.{◌≡◌}
use mathlib.Core.List.{[], ◌∷◌}
use Prim.Native.Nat.{ℕ, ◌*◌, ◌^◌, ◌≤◌, ◌<◌}
use native.Mathlib.Nat.{one-mul}
use native.Mathlib.Omega.{arith}
use lib.Dec.{lit<}
use lib.IntN.{ℤ, pos, neg_ℤ, nat_abs, ◌-ℤ◌, ◌*ℤ◌}
use lib.Signed.{◌≤ℤ◌, quot_z, le_z_yes, lt_z_yes}
use Rattle.arith.specs.Bounds.{Size}
use Rattle.arith.proofs.Quote.{ring!, quote}
use Rattle.arith.proofs.Order.{abs-*, abs_neg, size_abs}
use Rattle.arith.proofs.Cert.{◌⊠◌, ◌·◌, num, gap}
use Rattle.arith.proofs.Size.{size_by, size-+, size_neg, size-*, size_scale, size_quot}
use Rattle.trig.specs.Trig.{ONE, sine_of, cosine_of}
use Rattle.trig.specs.Exact.{Fraction, whole, ◌times◌, ◌minus◌, sine, cosine, Near}
use Rattle.trig.proofs.PowerSeries.{sine-positive, cosine-positive}
use Rattle.trig.proofs.ExactErrors.{Off, sine-off, cosine-off}
use Rattle.cone.specs.Cone.{cone_angle_of}
use Rattle.accuracy.specs.Exact.{theta_of}
use Rattle.accuracy.proofs.SheetAngle.{near_theta}

-- r s / ONE against r p, where s is within 6 ONEths of ONE p: r is up to ONE / 4, so that 1.5 is added to 1 for the division
module _ (r s e : ℤ) (r_size : Size (pos 268435456) r) (enough : e ≤ℤ pos 6000) where
  product_error : (n d : ℤ) → pos 0 ≤ℤ d → Size (e *ℤ d) (pos 1000 *ℤ (s *ℤ d -ℤ ONE *ℤ n)) → Size (pos 2500 *ℤ (pos 1 *ℤ d)) (pos 1000 *ℤ (quot_z (r *ℤ s) ONE *ℤ (pos 1 *ℤ d) -ℤ r *ℤ n))
  product_error n d d-nonneg off =
      let ρ = r ∷ s ∷ quot_z (r *ℤ s) ONE ∷ n ∷ d ∷ e ∷ [] in
      let left-part = size_neg (size_scale (1000 · d-nonneg) (size_quot (2 ^ 30) (lit< tt) (r *ℤ s))) in
      size_by ONE (lt_z_yes tt) (size-+ (size-* r_size off) left-part) ((2 ^ 28) · (gap enough ⊠ d-nonneg)) (ring! ρ (search quote depth 40) tt) (ring! ρ (search quote depth 40) tt)

  product_near : (p : Fraction) → 0 < p.den → Off e s p → Near 3 (quot_z (r *ℤ s) ONE) (whole r times p)
  product_near p den_positive off =
      let y = quot_z (r *ℤ s) ONE *ℤ pos (1 * p.den) -ℤ r *ℤ p.num in
      let h : nat_abs (pos 1000 *ℤ y) ≤ 2500 * (1 * p.den) = size_abs (product_error p.num (pos p.den) (num p.den) off) in
      let k : 1000 * nat_abs y ≤ 2500 * (1 * p.den) = rw abs-* at h in
      omega arith

-- what is near p, taken from a whole number
difference : (a x n d : ℤ) → (a -ℤ x) *ℤ (pos 1 *ℤ d) -ℤ (a *ℤ d -ℤ n *ℤ pos 1) ≡ neg_ℤ (x *ℤ d -ℤ n)
difference a x n d = ring! (a ∷ x ∷ n ∷ d ∷ []) (search quote depth 40) tt

difference_near : (k : ℕ) (a x : ℤ) (p : Fraction) → Near k x p → Near k (a -ℤ x) (whole a minus p)
difference_near k a x p h = rw (difference a x p.num (pos p.den), abs_neg, one-mul) h

-- the sine is within 5.285 ONEths of the exact one, the cosine within 4.613
module _ (r d n : ℤ) (r_size : Size (pos 268435456) r) (d_size : Size (pos 60000000) d) (n_size : Size ONE n) where
  den_positive : 0 < (theta_of n d).den
  den_positive = lit< tt

  pub x_near : Near 3 (quot_z (r *ℤ sine_of (cone_angle_of n d)) ONE) (whole r times sine (theta_of n d))
  x_near =
      product_near r (sine_of (cone_angle_of n d)) (pos 5285) r_size (le_z_yes tt) (sine (theta_of n d)) (sine-positive (theta_of n d) den_positive)
      (sine-off (theta_of n d) (cone_angle_of n d) (pos 2030) 5263 (near_theta n d n_size d_size) (pos 5285) (le_z_yes tt))

  pub y_near : (r0 : ℤ) → Near 3 (r0 -ℤ quot_z (r *ℤ cosine_of (cone_angle_of n d)) ONE) (whole r0 minus whole r times cosine (theta_of n d))
  y_near r0 =
      difference_near 3 r0 (quot_z (r *ℤ cosine_of (cone_angle_of n d)) ONE) (whole r times cosine (theta_of n d))
      (product_near r (cosine_of (cone_angle_of n d)) (pos 4613) r_size (le_z_yes tt) (cosine (theta_of n d)) (cosine-positive (theta_of n d) den_positive)
      (cosine-off (theta_of n d) (cone_angle_of n d) (pos 2030) 5263 (near_theta n d n_size d_size)))
