-- What is printed for a map point that has a position. Assumes nothing.
use mathlib.Core.Bool.{true}
use mathlib.Core.List.{◌++◌}
use mathlib.Core.Path.{◌≡◌}
use lib.IntN.{ℤ}
use Rattle.refusal.proofs.InOrder.{each_holds, not_refused_all_hold, both_hold}
use Rattle.sheet.specs.declared.Sheet.{Sheet}
use Rattle.sheet.specs.Sheets.{sheet_rules}
use Rattle.conic.specs.MapToGlobe.{point_rules, latitude_of, longitude_of, held_reply, inverse_reply}
use Rattle.nearest.specs.Taps.{tap_in_range, usual_reach}
use Rattle.nearest.proofs.NearestLaws.{least-is_nearest, none_in_reach_refused}
use Rattle.programs.specs.Tapping.{near_line, point_line}
use Rattle.programs.specs.Laws.{NoneInReachDash, NearestNamed}

-- such a point is in the range of taps
in_range_lem : (s : Sheet) (x y : ℤ) → (inverse_reply s x y).number ≡ 0 → tap_in_range x y usual_reach ≡ true
unfolding point_rules
in_range_lem s x y e =
    let all = not_refused_all_hold 2 (sheet_rules s ++ point_rules s x y) (held_reply s (latitude_of s x y) (longitude_of s x y)) e in
    rw (each_holds (point_rules s x y) (both_hold (sheet_rules s) (point_rules s x y) all).1).0

pub none_in_reach_dash : NoneInReachDash
unfolding point_line near_line
none_in_reach_dash s ps x y e none = rw (e, none_in_reach_refused ps x y usual_reach (in_range_lem s x y e) none)

pub nearest_named : NearestNamed
unfolding point_line near_line
nearest_named s ps x y k e near = rw (e, least-is_nearest ps x y usual_reach k (in_range_lem s x y e) near)
