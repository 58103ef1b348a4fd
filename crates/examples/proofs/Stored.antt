-- The file of case 11 in a table and in a buffer, and taps: by computation. Assumes nothing.
use mathlib.Core.Path.{refl, ap}
use mathlib.Core.List.{[], ◌∷◌, ◌++◌}
use native.Mathlib.Omega.{arith}
use lib.ListN.{length, drop}
use Rattle.trig.specs.Trig.{angle_of, square_of, series_of, sine_of, cosine_of}
use Rattle.cone.specs.Cone.{cone_angle_of}
use Rattle.sheet.specs.Sheets.{within_limits, cone_agrees, radius_agrees, constants_agree, sheet_rules, shifted, offset_of, on_sheet}
use Rattle.conic.specs.Conic.{position_rules, t_of, x_at, y_at, x_of, y_of}
use Rattle.little_endian.specs.Numbers.{unsigned, u32_bytes, numbers_bytes}
use Rattle.place.specs.Names.{is_name}
use Rattle.place.specs.Places.{place_rules_at, place_rules}
use Rattle.records.specs.Records.{sheet_record, place_record, end_record}
use Rattle.nearest.specs.Taps.{squared, squared_distance, is_before, better, best_of, within_reach_from, within_reach, nearest_reply}
use Rattle.atlas_file.specs.Reading.{Reading}
use Rattle.atlas_file.specs.Writing.{place_records, file_of, places_rules, list_rules, write_rules}
use Rattle.atlas.specs.Buffers.{buffer_after}
use Rattle.examples.specs.Tables.{other, MillStored, MillWritten, MillNearest, TapReplies, FarIsNotNear}
use Rattle.examples.proofs.Read.{mill-read_in}

pub mill-stored : MillStored
mill-stored = ap (λ (R : Reading). R.places ++ drop (length R.places) (other ∷ other ∷ [])) (mill-read_in 2 (omega arith))

pub mill-written : MillWritten
unfolding angle_of square_of series_of sine_of cosine_of
    within_limits cone_angle_of cone_agrees radius_agrees constants_agree sheet_rules shifted offset_of on_sheet position_rules t_of x_at y_at x_of y_of
    u32_bytes unsigned numbers_bytes is_name sheet_record place_record end_record
    place_rules_at place_rules place_records file_of places_rules list_rules write_rules buffer_after
mill-written = refl

pub mill-nearest : MillNearest
unfolding squared squared_distance is_before better best_of within_reach_from within_reach nearest_reply
mill-nearest = refl

pub tap_replies : TapReplies
unfolding squared squared_distance is_before better best_of within_reach_from within_reach nearest_reply
tap_replies = refl

pub far_is_not_near : FarIsNotNear
unfolding squared squared_distance is_before better best_of within_reach_from within_reach nearest_reply
far_is_not_near = refl
