-- A position 4 units off is ruled out, 1 unit is too few, flooring breaks the mirror, and 1 unit is too few there and back: by computation. Assumes nothing.
use mathlib.Core.Path.{refl}
use lib.Dec.{lit<, lt→ltb}
use lib.Signed.{lt_z_yes, clash_ℤ}
use Rattle.trig.specs.Trig.{angle_of, square_of, series_of, sine_of, cosine_of, root_bits, root_below, rounded, root_of}
use Rattle.trig.specs.Exact.{power, factorial, series, sine, cosine}
use Rattle.cone.specs.Cone.{cone_angle_of, radius_at, not_left, not_right, halved, last_lo}
use Rattle.sheet.specs.Sheets.{within_limits, cone_agrees, radius_agrees, constants_agree, sheet_rules, shifted, offset_of, on_sheet}
use Rattle.sheet.specs.Laws.{mirrored}
use Rattle.conic.specs.Conic.{t_of, x_at, y_at, x_of, y_of}
use Rattle.conic.specs.MapToGlobe.{point_on_sheet, latitude_of, longitude_of, point_rules}
use Rattle.accuracy.specs.Exact.{theta, X, Y}
use Rattle.accuracy.specs.Tight.{FourUnitsOffIsFalse, OneUnitIsFalse, FloorBreaksMirror, OneUnitBackIsFalse}

pub four_units_off_is_false : FourUnitsOffIsFalse
unfolding angle_of square_of series_of sine_of cosine_of within_limits cone_angle_of cone_agrees radius_agrees constants_agree sheet_rules shifted offset_of on_sheet
    t_of x_at y_at x_of y_of power factorial series sine cosine theta X Y
four_units_off_is_false = ((refl, refl), (lt→ltb _ _, lt→ltb _ _), (lt→ltb _ _, lt→ltb _ _))

pub one_unit_is_false : OneUnitIsFalse
unfolding angle_of square_of series_of sine_of cosine_of within_limits cone_angle_of cone_agrees radius_agrees constants_agree sheet_rules shifted offset_of on_sheet t_of x_at x_of power factorial series sine theta X
one_unit_is_false = ((refl, refl), lt→ltb _ _)

pub floor_breaks_mirror : FloorBreaksMirror
unfolding angle_of square_of series_of sine_of cone_angle_of shifted offset_of mirrored t_of x_at x_of power factorial series sine theta X
floor_breaks_mirror = (refl, refl, lit< tt)

pub one_unit_back_is_false : OneUnitBackIsFalse
unfolding angle_of square_of series_of sine_of cosine_of root_bits root_below rounded root_of
    within_limits cone_angle_of cone_agrees radius_agrees constants_agree sheet_rules shifted offset_of on_sheet
    t_of x_at x_of radius_at not_left not_right point_on_sheet halved last_lo latitude_of longitude_of point_rules
one_unit_back_is_false = (refl, λ h. clash_ℤ (lt_z_yes tt) h.low, λ h. clash_ℤ (lt_z_yes tt) h.low)
