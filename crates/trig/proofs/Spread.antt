-- From an angle to one nearby: how far angle, sine and cosine go. And the least cosine. Assumes nothing.
use mathlib.Core.Path.{refl}
use mathlib.Core.Logic.{inl}
use mathlib.Core.List.{[], ◌∷◌}
use Prim.Native.Nat.{◌*◌, ◌-◌, ◌^◌}
use native.Mathlib.Omega.{arith}
use lib.Dec.{lit<}
use lib.IntN.{ℤ, pos, ◌+ℤ◌, ◌-ℤ◌, ◌*ℤ◌}
use lib.Signed.{le_z_yes, lt_z_yes}
use Rattle.arith.specs.Bounds.{Within, Size}
use Rattle.arith.proofs.Quote.{ring!, quote}
use Rattle.arith.proofs.Parts.{linear, mul_parts}
use Rattle.arith.proofs.Cert.{num, le_by}
use Rattle.arith.proofs.Quot.{quot-step}
use Rattle.arith.proofs.Size.{size_by, size-+, size_neg, size-*, size_scale, size_wider, size_is, size_step}
use Rattle.arith.proofs.Fits.{ranges, inside_of}
use Rattle.trig.specs.Trig.{ONE, angle_factor, angle_of, square_of, series_of, sine_row, cosine_row, sine_of, cosine_of}
use Rattle.trig.specs.Row.{NearFraction}
use Rattle.trig.specs.Laws.{AngleStep, CosineLeast, NearbyAngles}
use Rattle.trig.proofs.Sizes.{square_size, series-size}
use Rattle.trig.proofs.Row.{row_from_one}
use Rattle.trig.proofs.NearAngle.{NearAngle, near_angle_by, own_near_angle}

pub angle_step : AngleStep
unfolding angle_of
angle_step a = quot-step (2 ^ 30) (lit< tt) {a = a *ℤ pos angle_factor} {c = (a +ℤ pos 1) *ℤ pos angle_factor}
    (le_by (num angle_factor) (ring! (a ∷ []) (search quote depth 40) tt)) (le_by (num (19 * 2 ^ 30 - angle_factor)) (ring! (a ∷ []) (search quote depth 40) tt))

pub cosine-least : CosineLeast
unfolding angle_of square_of series_of cosine_of
cosine-least t h =
    let k : Within (pos 429496730) ONE (cosine_of t) = inside_of (search ranges depth 60 fits 20000) tt in
    omega (linear, k.low, mul_parts 5 (cosine_of t))

-- two numbers that are near one fraction
apart : {p p' N D e e' : ℤ} → NearFraction p N D e → NearFraction p' N D e' → Size (e +ℤ e') (pos 1000 *ℤ (p' -ℤ p))
apart {p} {p'} {N} {D} {e} {e'} k k' =
    let ρ = p ∷ p' ∷ N ∷ D ∷ e ∷ e' ∷ [] in
    size_by D k.D-positive (size-+ (size_neg k.off) k'.off) (num 0) (ring! ρ (search quote depth 40) tt) (ring! ρ (search quote depth 40) tt)

-- t and t' are both held against t' / ONE
pub nearby_angles : NearbyAngles
unfolding angle_of sine_of cosine_of
nearby_angles t t' h h' near =
    let t_size = size_wider (le_z_yes tt) (size_scale (num 20) h) in
    let t'-size = size_wider (le_z_yes tt) (size_scale (num 20) h') in
    let a : NearAngle t t' ONE (pos 19000) (pos 40900) = near_angle_by (lt_z_yes tt) t_size t'-size
    (size_is (size_scale (num (1000 * 2 ^ 30)) (size_neg near)) (ring! (t ∷ t' ∷ []) (search quote depth 40) tt)) (le_z_yes tt) in
    let s = a.square in
    let s' = (own_near_angle t' t'-size).square in
    let cosines : Size (pos 26457) (pos 1000 *ℤ (cosine_of t' -ℤ cosine_of t)) = apart (row_from_one s cosine_row (omega arith)) (row_from_one s' cosine_row (omega arith)) in
    let p = series_of sine_row (square_of t) in
    let p' = series_of sine_row (square_of t') in
    let turn-part = size-* (size_scale (num 20000) near) (series-size [] sine_row (square_of t') (inl refl) (square_size t' (size_wider (le_z_yes tt) h'))) in
    let row-part = size-* t_size (apart (row_from_one s sine_row (omega arith)) (row_from_one s' sine_row (omega arith))) in (
      size_step (2 ^ 30) (lit< tt) (t *ℤ p) (t' *ℤ p')
          (size_by (pos 20000) (lt_z_yes tt) (size-+ turn-part row-part) (num (13339 * 2 ^ 30)) refl (ring! (t ∷ t' ∷ p ∷ p' ∷ []) (search quote depth 40) tt)),
      omega (linear, cosines, mul_parts 1000 (cosine_of t' -ℤ cosine_of t)),
    )
