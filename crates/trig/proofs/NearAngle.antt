-- An angle t held against a / b: what its rows and its sine need to know of it, on either side of 0, and how far the sine is off.
-- Distances are in thousandths of a ONEth. Assumes nothing.
use mathlib.Core.List.{[], ◌∷◌}
use Prim.Native.Nat.{◌*◌, ◌^◌}
use lib.Dec.{lit<}
use lib.IntN.{ℤ, pos, ◌+ℤ◌, ◌-ℤ◌, ◌*ℤ◌}
use lib.Signed.{◌≤ℤ◌, ◌<ℤ◌, quot_z, le_z_yes, lt_z_yes}
use Rattle.arith.specs.Bounds.{Size}
use Rattle.arith.proofs.Quote.{ring!, quote}
use Rattle.arith.proofs.Order.{<ℤ→≤ℤ}
use Rattle.arith.proofs.Cert.{◌⊞◌, ◌⊠◌, ◌·◌, sq, num, gap, le_by*, 0<*}
use Rattle.arith.proofs.Quot.{quot-nonneg}
use Rattle.arith.proofs.Size.{size_by, size-+, size_neg, size-*, size_self, size_scale, size_quot, size_is}
use Rattle.trig.specs.Trig.{ONE, square_of, sine_row, series_of, sine_of}
use Rattle.trig.specs.Row.{NearSquare, NearFraction}
use Rattle.trig.proofs.Row.{num_size}

-- t is within u of ONE a / b, and up to 1.05 ONE; its square is within v of ONE (a / b)²
pub record NearAngle (t a b u v : ℤ) : Type 0 where
  pub b_positive : pos 0 <ℤ b
  pub t_size : Size (pos 21 *ℤ ONE) (pos 20 *ℤ t)
  pub near : Size (u *ℤ b) (pos 1000 *ℤ (t *ℤ b -ℤ ONE *ℤ a))
  pub square : NearSquare (pos 6) (square_of t) (a *ℤ a) (b *ℤ b) v

-- where a / b is up to 1.05 too, v is 2.1 u + 1
pub near_angle_by : {t a b u v : ℤ} → pos 0 <ℤ b → Size (pos 21 *ℤ ONE) (pos 20 *ℤ t) → Size (pos 21 *ℤ b) (pos 20 *ℤ a) →
    Size (u *ℤ b) (pos 1000 *ℤ (t *ℤ b -ℤ ONE *ℤ a)) → (pos 21 *ℤ u +ℤ pos 10000) ≤ℤ (pos 10 *ℤ v) → NearAngle t a b u v
unfolding square_of
near_angle_by {t} {a} {b} {u} {v} b_positive t_size a-size near enough =
    let q = quot-nonneg (2 ^ 30) (lit< tt) (t *ℤ t) (sq t) in
    let ρ = t ∷ a ∷ b ∷ u ∷ v ∷ quot_z (t *ℤ t) ONE ∷ [] in
    let near-part = size_neg (size-* near (size-+ (size_scale (num (2 ^ 30)) a-size) (size_scale (<ℤ→≤ℤ b_positive) t_size))) in
    let left-part = size_scale (20000 · sq b) (size_quot (2 ^ 30) (lit< tt) (t *ℤ t)) in
    record {
      b_positive = b_positive;
      t_size = t_size;
      near = near;
      square = record {
        z_nonneg = q.0;
        z_most = le_by* (80 * 2 ^ 30) tt (400 · gap q.1 ⊞ gap (size-* t_size t_size).high ⊞ 39 · sq ONE) (ring! ρ (search quote depth 40) tt);
        A-nonneg = sq a;
        A-most = le_by* 80 tt (gap (size-* a-size a-size).high ⊞ 39 · sq b) (ring! ρ (search quote depth 40) tt);
        B-positive = 0<* b_positive b_positive;
        off = size_by (pos 20 *ℤ ONE) (lt_z_yes tt) (size-+ near-part left-part) ((2 ^ 31) · (gap enough ⊠ sq b))
            (ring! ρ (search quote depth 40) tt) (ring! ρ (search quote depth 40) tt);
      };
    }

-- t / ONE itself: nothing is lost but in the square's division
pub own_near_angle : (t : ℤ) → Size (pos 21 *ℤ ONE) (pos 20 *ℤ t) → NearAngle t t ONE (pos 0) (pos 1000)
own_near_angle t h = near_angle_by (lt_z_yes tt) h h (size_is (size_self (num 0)) (ring! (t ∷ []) (search quote depth 40) tt)) (le_z_yes tt)

-- the sine against (a / b) (N / D), where its row's p is within e of ONE N / D: m is 1.05 e + u + 1
pub sine-error : {t a b u v N D e : ℤ} → NearAngle t a b u v → NearFraction (series_of sine_row (square_of t)) N D e → (m : ℤ) → (pos 21 *ℤ e +ℤ pos 20 *ℤ u +ℤ pos 20000) ≤ℤ (pos 20 *ℤ m) →
    Size (m *ℤ (b *ℤ D)) (pos 1000 *ℤ (sine_of t *ℤ (b *ℤ D) -ℤ ONE *ℤ (a *ℤ N)))
unfolding sine_of
sine-error {t} {a} {b} {u} {N = N} {D} {e} h k m enough =
    let p = series_of sine_row (square_of t) in
    let b-nonneg = <ℤ→≤ℤ h.b_positive in
    let b_d_nonneg = b-nonneg ⊠ <ℤ→≤ℤ k.D-positive in
    let row-part = size-* h.t_size (size_scale b-nonneg k.off) in
    let angle-part = size_scale (num (20 * 2 ^ 30)) (size-* (num_size k) h.near) in
    let left-part = size_neg (size_scale (20000 · b_d_nonneg) (size_quot (2 ^ 30) (lit< tt) (t *ℤ p))) in
    let ρ = t ∷ p ∷ quot_z (t *ℤ p) ONE ∷ a ∷ b ∷ N ∷ D ∷ e ∷ u ∷ m ∷ [] in
    size_by (pos 20 *ℤ ONE) (lt_z_yes tt) (size-+ (size-+ row-part angle-part) left-part) ((2 ^ 30) · (gap enough ⊠ b_d_nonneg))
    (ring! ρ (search quote depth 40 fits 9000) tt) (ring! ρ (search quote depth 40 fits 9000) tt)
