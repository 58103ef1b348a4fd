-- What the programs print of cases 11 and 12: by computation, behind what reading gives. Assumes nothing.
use mathlib.Core.Path.{refl, ap}
use mathlib.Core.Bool.{cond}
use mathlib.Core.List.{List, [], ◌++◌}
use Prim.Native.Nat.{ℕ}
use native.Mathlib.Omega.{arith}
use lib.Dec.{eqb}
use Rattle.trig.specs.Trig.{angle_of, square_of, series_of, sine_of, cosine_of, root_bits, root_below, rounded, root_of}
use Rattle.cone.specs.Cone.{cone_angle_of, radius_at, not_left, not_right, halved, last_lo}
use Rattle.sheet.specs.Sheets.{within_limits, cone_agrees, radius_agrees, constants_agree, sheet_rules, shifted, offset_of, on_sheet}
use Rattle.conic.specs.MapToGlobe.{point_on_sheet, latitude_of, longitude_of, point_rules}
use Rattle.nearest.specs.Taps.{squared, squared_distance, is_before, better, best_of, within_reach_from, within_reach, nearest_reply}
use Rattle.atlas_file.specs.Steps.{most_places, step_of}
use Rattle.atlas_file.specs.Reading.{Reading, start_of, read_from, read_of}
use Rattle.text.specs.Decimals.{digits_up_to, decimal, signed, is_numeral, is_number, spelled}
use Rattle.text.specs.Lines.{count_line, place_line, file_refused_line, found_line, refused_line, nothing_found_line}
use Rattle.text.specs.TapLines.{has_form, x_of, y_of, line_rules, line_reply}
use Rattle.programs.specs.Listing.{place_lines, listing_of}
use Rattle.programs.specs.Tapping.{near_line, point_line, answer_to, answers_after, tap_output}
use Rattle.examples.specs.Printed.{tap, MillListed, NothingListed, NothingTapped, MillTapped}
use Rattle.examples.proofs.Read.{mill-read_in}

-- what a file that is read gives to print, and to print of the tap
listed : Reading → List ℕ
listed r = cond (eqb r.reply.number 0) (count_line r.reply.count ++ place_lines r.places) (file_refused_line r.reply.number r.reply.offset)

tapped : Reading → List ℕ
tapped r = cond (eqb r.reply.number 0) (answers_after r.reply.sheet r.places [] tap) (file_refused_line r.reply.number r.reply.offset)

pub mill-listed : MillListed
unfolding listed listing_of count_line place_line digits_up_to decimal signed
mill-listed = ap listed (mill-read_in most_places (omega arith))

pub nothing_listed : NothingListed
unfolding listing_of file_refused_line digits_up_to decimal step_of start_of read_from read_of
nothing_listed = refl

pub nothing_tapped : NothingTapped
unfolding tap_output listing_of file_refused_line digits_up_to decimal step_of start_of read_from read_of
nothing_tapped input = refl

pub mill-tapped : MillTapped
unfolding tapped tap_output answer_to point_line near_line found_line refused_line nothing_found_line digits_up_to decimal signed
    has_form is_numeral is_number spelled x_of y_of line_rules line_reply
    angle_of square_of series_of sine_of cosine_of root_bits root_below rounded root_of
    within_limits cone_angle_of cone_agrees radius_agrees constants_agree sheet_rules shifted offset_of on_sheet
    radius_at not_left not_right point_on_sheet halved last_lo latitude_of longitude_of point_rules
    squared squared_distance is_before better best_of within_reach_from within_reach nearest_reply
mill-tapped = ap tapped (mill-read_in most_places (omega arith))
