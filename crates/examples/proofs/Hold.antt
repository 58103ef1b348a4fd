-- The worked examples hold, by computation. Assumes nothing.
use mathlib.Core.Path.{refl}
use Rattle.trig.specs.Trig.{angle_of, square_of, series_of, sine_of, cosine_of, root_bits, root_below, rounded, root_of, offered}
use Rattle.cone.specs.Cone.{cone_angle_of, radius_at, not_left, not_right, halved, last_lo}
use Rattle.sheet.specs.Sheets.{within_limits, cone_agrees, radius_agrees, constants_agree, sheet_rules, shifted, offset_of, on_sheet}
use Rattle.conic.specs.Conic.{position_rules, t_of, x_at, y_at, x_of, y_of}
use Rattle.conic.specs.MapToGlobe.{point_on_sheet, latitude_of, longitude_of, point_rules}
use Rattle.examples.specs.Examples.{AllHold}

pub all_hold_lem : AllHold
unfolding angle_of square_of series_of sine_of cosine_of root_bits root_below rounded root_of offered
    within_limits cone_angle_of cone_agrees radius_agrees constants_agree sheet_rules shifted offset_of on_sheet position_rules t_of x_at y_at x_of y_of
    radius_at not_left not_right point_on_sheet halved last_lo latitude_of longitude_of point_rules
all_hold_lem = refl
