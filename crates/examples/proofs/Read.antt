-- Case 11 holds: its cuts by the law of cut files, the rest by computation. Assumes nothing.
use mathlib.Core.Path.{◌≡◌, refl, ap, ◌∙◌}
use mathlib.Core.List.{[], ◌∷◌}
use Prim.Native.Nat.{ℕ, ◌≤◌}
use native.Mathlib.Omega.{arith}
use Rattle.trig.specs.Trig.{angle_of, square_of, series_of, sine_of, cosine_of}
use Rattle.sheet.specs.Samples.{sheet_a}
use Rattle.cone.specs.Cone.{cone_angle_of}
use Rattle.sheet.specs.Sheets.{within_limits, cone_agrees, radius_agrees, constants_agree, sheet_rules, shifted, offset_of, on_sheet}
use Rattle.conic.specs.Conic.{position_rules, t_of, x_at, y_at, x_of, y_of}
use Rattle.little_endian.specs.Numbers.{signed, unsigned, i32_at, u32_bytes, numbers_bytes}
use Rattle.place.specs.Names.{is_name}
use Rattle.records.specs.Records.{layout_of, sheet_of, sheet_record, place_of, place_record, end_of, end_record}
use Rattle.place.specs.Places.{place_rules_at, place_rules}
use Rattle.atlas_file.specs.Steps.{due_rules, sheet_step, place_step, end_step, content_step, record_step, step_of}
use Rattle.atlas_file.specs.Reading.{Reading, accepted_reading, start_of, read_from, read_of}
use Rattle.atlas_file.specs.Writing.{place_records, file_of, places_rules, list_rules, write_rules}
use Rattle.integrity.proofs.Rooms.{room_enough}
use Rattle.integrity.proofs.Cuts.{cut_refused}
use Rattle.examples.specs.Files.{mill, mill_file, MillLength, MillRead, MillCut, NothingRead, ShortBuffer, WriterOrder}

pub mill-length : MillLength
unfolding file_of sheet_record place_records place_record end_record numbers_bytes u32_bytes unsigned
mill-length = refl

pub mill-read : MillRead
unfolding angle_of square_of series_of sine_of cosine_of
    within_limits cone_angle_of cone_agrees radius_agrees constants_agree sheet_rules shifted offset_of on_sheet position_rules t_of x_at y_at x_of y_of
    signed unsigned i32_at u32_bytes numbers_bytes is_name layout_of sheet_of sheet_record place_of place_record end_of end_record
    place_rules_at place_rules due_rules sheet_step place_step end_step content_step record_step step_of start_of read_from read_of place_records file_of
mill-read = refl

one : (read_of mill_file 1).reply.count ≡ 1
one = ap (λ (r : Reading). r.reply.count) mill-read

good : (read_of mill_file 1).reply.number ≡ 0
good = ap (λ (r : Reading). r.reply.number) mill-read

-- with room for more places
pub mill-read_in : (room : ℕ) → 1 ≤ room → read_of mill_file room ≡ accepted_reading 1 sheet_a (mill ∷ [])
mill-read_in room h = room_enough mill_file 1 room good (omega (arith, one)) ∙ mill-read

pub mill-cut : MillCut
mill-cut k h = ap (λ (r : Reading). r.reply.number) (cut_refused mill_file 1 1 k good (omega (arith, one)) (omega (arith, mill-length))).2

pub nothing_read : NothingRead
unfolding step_of start_of read_from read_of
nothing_read = refl

pub short_buffer : ShortBuffer
unfolding angle_of square_of series_of sine_of cosine_of
    within_limits cone_angle_of cone_agrees radius_agrees constants_agree sheet_rules shifted offset_of on_sheet position_rules t_of x_at y_at x_of y_of
    u32_bytes unsigned numbers_bytes is_name sheet_record place_record end_record
    place_rules_at place_rules place_records file_of places_rules list_rules write_rules
short_buffer = refl

pub writer_order : WriterOrder
unfolding angle_of square_of series_of sine_of cosine_of
    within_limits cone_angle_of cone_agrees radius_agrees constants_agree sheet_rules shifted offset_of on_sheet position_rules t_of x_at y_at x_of y_of
    u32_bytes unsigned numbers_bytes is_name sheet_record place_record end_record
    place_rules_at place_rules place_records file_of places_rules list_rules write_rules
writer_order = refl
