-- Every map point that is not refused is answered with a position on the sheet that projects back within 16 units. Assumes nothing.
use mathlib.Core.Path.{◌≡◌}
use mathlib.Core.Bool.{true}
use mathlib.Core.List.{[], ◌∷◌}
use lib.IntN.{ℤ, pos, ◌+ℤ◌, ◌-ℤ◌, ◌*ℤ◌}
use lib.Signed.{◌≤ℤ◌, quot_z}
use Rattle.arith.specs.Bounds.{Size}
use Rattle.arith.proofs.Quote.{ring!, quote}
use Rattle.arith.proofs.Parts.{linear, add_parts}
use Rattle.arith.proofs.Order.{le_true}
use Rattle.arith.proofs.Cert.{◌⊞◌, sq, num, gap, le_by, lt_by}
use Rattle.arith.proofs.Size.{size_root}
use Rattle.trig.specs.Trig.{ONE, angle_of, sine_of, cosine_of}
use Rattle.trig.proofs.Circle.{near_circle}
use Rattle.trig.proofs.Spread.{cosine-least, nearby_angles}
use Rattle.sheet.specs.declared.Sheet.{Sheet}
use Rattle.cone.specs.Cone.{cone_angle_of, radius_at, not_left, not_right, offset_at}
use Rattle.sheet.specs.Sheets.{w, n, g, passes_checks}
use Rattle.cone.proofs.ConeAngles.{cone_angle_size, cone_angle_step}
use Rattle.conic.specs.Conic.{r_of, r0, t_of, x_at, y_at, x_of, y_of}
use Rattle.conic.specs.MapToGlobe.{point_in_range, v_of, point_on_sheet, latitude_of, longitude_of}
use Rattle.accuracy.specs.Accuracy.{BackWithinSixteenUnits}
use Rattle.conic.proofs.Ranges.{limits, n_size}
use Rattle.conic.proofs.Answered.{on_sheet-answered}
use Rattle.conic.proofs.OwnSheet.{point_on_sheet-holds, r_range, d_between, d_range, longitude-is, on_its_own_sheet, point_answered, not_refused_on_sheet}
use Rattle.conic.proofs.Distance.{radius_is_root}
use Rattle.accuracy.proofs.Returned.{returned}

-- h in x and k in y are a distance of up to 16; so are both in size
abbrev Close : (h k : ℤ) → Type 0
Close h k = (h *ℤ h +ℤ k *ℤ k) ≤ℤ pos 256

in_each : (h k : ℤ) → Close h k → Size (pos 16) h × Size (pos 16) k
in_each h k b = (
  size_root (num 16) (lt_by (gap b ⊞ sq k ⊞ num 32) (ring! (h ∷ k ∷ []) (search quote depth 20) tt)),
  size_root (num 16) (lt_by (gap b ⊞ sq h ⊞ num 32) (ring! (h ∷ k ∷ []) (search quote depth 20) tt)),
)

module _ (s : Sheet) (x y : ℤ) (p : passes_checks s ≡ true) (i : point_in_range x y ≡ true) (o : point_on_sheet s x (v_of s y) ≡ true) where
  abbrev v : ℤ
  v = v_of s y

  abbrev r : ℤ
  r = radius_at x v

  abbrev d : ℤ
  d = offset_at (n s) x v (w s)

  -- the angles on the cone of d and of the offset next to it
  abbrev t : ℤ
  t = cone_angle_of (n s) d

  abbrev t' : ℤ
  t' = cone_angle_of (n s) (d +ℤ pos 1)

  -- the point lies between their directions
  near : Close (x_at r t -ℤ x) (y_at (r0 s) r t -ℤ y)
  unfolding not_left not_right x_at y_at angle_of
  near =
      let below = (point_on_sheet-holds s x v o).below_apex in
      let between = d_between s x y p o in
      let range = d_range s x y p o in
      let l = limits s p in
      let h = cone_angle_size (n s) (pos 60000000) d (n_size s p) (omega linear) in
      let h' = cone_angle_size (n s) (pos 60000000) (d +ℤ pos 1) (n_size s p) (omega (linear, add_parts d (pos 1))) in
      let step = nearby_angles t t' h h' (cone_angle_step (n s) d (omega linear)) in
      let b = returned x v r (sine_of t) (cosine_of t) (sine_of t') (cosine_of t') below (radius_is_root s x y p i below) (r_range s x y p o)
      (le_true between.2) (le_true between.3) step.0 step.1 (cosine-least t h) (near_circle t h) in
      le_by (gap b) (ring! (x ∷ r0 s ∷ y ∷ quot_z (r *ℤ sine_of t) ONE ∷ quot_z (r *ℤ cosine_of t) ONE ∷ []) (search quote depth 40) tt)

  -- the radius and the angle on the cone that the position gives are those of the point
  same_r : r_of s (latitude_of s x y) ≡ r
  unfolding latitude_of
  same_r = ring! (g s ∷ r ∷ []) (search quote depth 20) tt

  same_t : t_of s (longitude_of s x y) ≡ t
  unfolding t_of
  same_t = rw (longitude-is s x y p o).1

  back : Close (x_of s (latitude_of s x y) (longitude_of s x y) -ℤ x) (y_of s (latitude_of s x y) (longitude_of s x y) -ℤ y)
  unfolding x_of y_of
  back = rw (same_r, same_t) near

pub back_within_sixteen_units : BackWithinSixteenUnits
back_within_sixteen_units s x y e =
    let h = not_refused_on_sheet s x y e in
    let o = on_its_own_sheet s x y h.0 h.2 in
    let b = back s x y h.0 h.1 h.2 in
    let each = in_each _ _ b in
    (point_answered s x y h.0 h.1 h.2, o, on_sheet-answered s (latitude_of s x y) (longitude_of s x y) h.0 o, each.0, each.1, b)
