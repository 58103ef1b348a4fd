-- Longitudes mirrored about the central meridian give -x and the same y; -180,000,000 and 180,000,000 give the same reply. Assumes nothing.
use mathlib.Core.Path.{◌≡◌}
use lib.IntN.{ℤ, neg_ℤ, ◌*ℤ◌}
use Rattle.arith.proofs.Laws.{*ℤ-negℤ}
use Rattle.arith.proofs.Quot.{quot-neg}
use Rattle.refusal.proofs.InOrder.{agree_behind}
use Rattle.trig.specs.Trig.{sine_of}
use Rattle.trig.proofs.Mirror.{sine-odd, cosine-even}
use Rattle.cone.proofs.ConeAngles.{cone_angle_odd}
use Rattle.sheet.specs.declared.Sheet.{Sheet}
use Rattle.sheet.specs.Sheets.{n, sheet_rules, offset_of}
use Rattle.sheet.specs.Laws.{mirrored}
use Rattle.sheet.proofs.Limits.{passes_limits}
use Rattle.sheet.proofs.Meridians.{same_meridian as same-on-sheet, mirrored-offset}
use Rattle.conic.specs.Conic.{r_of, t_of, x_at, y_at, x_of, y_of, position_rules}
use Rattle.conic.specs.Laws.{Mirror, SameMeridian}
use Rattle.conic.proofs.Answered.{on_sheet-answered, answered-on_sheet}

module _ (s : Sheet) (latitude longitude : ℤ) (opposite : offset_of s (mirrored s longitude) ≡ neg_ℤ (offset_of s longitude)) where
  mirrored-t : t_of s (mirrored s longitude) ≡ neg_ℤ (t_of s longitude)
  unfolding t_of
  mirrored-t = rw opposite (cone_angle_odd (n s) (offset_of s longitude))

  mirrored-x : x_of s latitude (mirrored s longitude) ≡ neg_ℤ (x_of s latitude longitude)
  unfolding x_of x_at
  mirrored-x = rw (mirrored-t, sine-odd, *ℤ-negℤ) (quot-neg (r_of s latitude *ℤ sine_of (t_of s longitude)) 1073741824)

  mirrored-y : y_of s latitude (mirrored s longitude) ≡ y_of s latitude longitude
  unfolding y_of y_at
  mirrored-y = rw (mirrored-t, cosine-even)

pub mirror : Mirror
mirror s latitude longitude x y e =
    let a = answered-on_sheet s latitude longitude x y e in
    let m = mirrored-offset s latitude longitude (passes_limits s a.0) a.1 in
    rw (on_sheet-answered s latitude (mirrored s longitude) a.0 m.1, mirrored-x s latitude longitude m.0, mirrored-y s latitude longitude m.0, a.2, a.3)

pub same_meridian : SameMeridian
unfolding t_of x_of y_of position_rules
same_meridian s latitude =
    agree_behind 2 (sheet_rules s) _ _ _ _ (λ p. let m = same-on-sheet s latitude (passes_limits s p) in rw (m.0, m.1))
