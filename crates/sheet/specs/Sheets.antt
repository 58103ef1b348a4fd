-- Document 01, 'Units and the sheet'; and of 'From globe to map' the offset from the central meridian and what is on the sheet.
-- A unit is a millionth of a degree of arc; map coordinates are in the same unit. `le_z` and `lt_z` are the tests of ≤ and <; `cone_angle_of n a` is the quotient n × angle(a) / ONE.
use Rattle.std.specs.Prelude.{Bool, cond, ◌&&◌, List, [], ◌∷◌, ℤ, pos, neg_ℤ, ◌+ℤ◌, ◌-ℤ◌, Result}
use Rattle.std.specs.Int.Signed.{le_z, lt_z}
use Rattle.arith.specs.Bounds.{is_within, size_up_to}
use Rattle.refusal.specs.declared.Refusal.{Refusal}
use Rattle.refusal.specs.declared.Refusal.TheVariants.{SheetLimit, SheetConstants}
use Rattle.refusal.specs.Numbers.{Reply, accepted, reply_by}
use Rattle.refusal.specs.Rules.{Rule, ◌else-refuse◌, in_order, all_hold}
use Rattle.trig.specs.Trig.{ONE, angle_of, sine_of, cosine_of}
use Rattle.cone.specs.Cone.{cone_angle_of}
use Rattle.sheet.specs.declared.Sheet.{Sheet}

-- A sheet's nine numbers, in this order: first parallel f1, second parallel f2, origin latitude f0, central meridian m0, south edge fs, north edge fn,
-- half-width w, cone constant n (in ONEths), radius constant g (units).
abbrev pub f1 : Sheet → ℤ
f1 s = s.first_parallel

abbrev pub f2 : Sheet → ℤ
f2 s = s.second_parallel

abbrev pub f0 : Sheet → ℤ
f0 s = s.origin_latitude

abbrev pub m0 : Sheet → ℤ
m0 s = s.central_meridian

abbrev pub fs : Sheet → ℤ
fs s = s.south_edge

abbrev pub fn : Sheet → ℤ
fn s = s.north_edge

abbrev pub w : Sheet → ℤ
w s = pos s.half_width

abbrev pub n : Sheet → ℤ
n s = pos s.cone_constant

abbrev pub g : Sheet → ℤ
g s = s.radius_constant

-- zeros, where there is no sheet
unfoldable pub blank_sheet : Sheet
blank_sheet = record {
  first_parallel = pos 0;
  second_parallel = pos 0;
  origin_latitude = pos 0;
  central_meridian = pos 0;
  south_edge = pos 0;
  north_edge = pos 0;
  half_width = 0;
  cone_constant = 0;
  radius_constant = pos 0;
}

-- It is within its limits (else refusal 4) when
-- 5,000,000 ≤ f1 ≤ f2 ≤ 80,000,000, and fs ≤ f1, f2 ≤ fn;
-- 0 ≤ fs ≤ f0 ≤ fn ≤ 90,000,000;
-- -180,000,000 ≤ m0 < 180,000,000; 1 ≤ w ≤ 60,000,000;
-- 134,217,728 ≤ n ≤ ONE; g - fn ≥ 1,000,000; g - fs ≤ 268,435,456.
unfoldable pub within_limits : Sheet → Bool
within_limits s =
    (le_z (pos 5000000) (f1 s) && le_z (f1 s) (f2 s) && le_z (f2 s) (pos 80000000) && le_z (fs s) (f1 s) && le_z (f2 s) (fn s))
    && (le_z (pos 0) (fs s) && le_z (fs s) (f0 s) && le_z (f0 s) (fn s) && le_z (fn s) (pos 90000000))
    && (le_z (neg_ℤ (pos 180000000)) (m0 s) && lt_z (m0 s) (pos 180000000) && le_z (pos 1) (w s) && le_z (w s) (pos 60000000))
    && (le_z (pos 134217728) (n s) && le_z (n s) ONE && le_z (pos 1000000) (g s -ℤ fn s) && le_z (g s -ℤ fs s) (pos 268435456))

-- a differs from b by at most 32
abbrev pub agrees : (a b : ℤ) → Bool
agrees a b = size_up_to 32 (a -ℤ b)

-- Its constants agree with its parallels (else refusal 5) when both hold:
-- f1 = f2: n differs from sine(angle(f1)) by at most 32. f1 < f2: the quotient n × angle(f2 - f1) / ONE differs from cosine(angle(f1)) - cosine(angle(f2)) by at most 32;
unfoldable pub cone_agrees : (n f1 f2 : ℤ) → Bool
cone_agrees n f1 f2 = cond (lt_z f1 f2) (agrees (cone_angle_of n (f2 -ℤ f1)) (cosine_of (angle_of f1) -ℤ cosine_of (angle_of f2))) (agrees n (sine_of (angle_of f1)))

-- the quotient n × angle(g - f1) / ONE differs from cosine(angle(f1)) by at most 32. (r1 is g - f1, the first parallel's radius.)
unfoldable pub radius_agrees : (n f1 r1 : ℤ) → Bool
radius_agrees n f1 r1 = agrees (cone_angle_of n r1) (cosine_of (angle_of f1))

-- both hold
unfoldable pub constants_agree : Sheet → Bool
constants_agree s = cone_agrees (n s) (f1 s) (f2 s) && radius_agrees (n s) (f1 s) (g s -ℤ f1 s)

-- the sheet checks, in order
unfoldable pub sheet_rules : Sheet → List Rule
sheet_rules s = (within_limits s else-refuse SheetLimit) ∷ (constants_agree s else-refuse SheetConstants) ∷ []

-- a sheet passes the sheet checks when it is within its limits and its constants agree
abbrev pub passes_checks : Sheet → Bool
passes_checks s = all_hold (sheet_rules s)

-- what the check of a sheet comes to
abbrev pub check_reply : Sheet → Reply
check_reply s = in_order 0 (sheet_rules s) (accepted [])

-- the number that the answer to a check stands for
abbrev pub reply_of : Result Unit Refusal → Reply
reply_of = reply_by 0 (λ _. [])

-- a, shifted by 360,000,000 into -180,000,000 up to, not including, 180,000,000: one shift is enough where a lies in -540,000,000 ≤ a < 540,000,000 (Laws: ShiftedRange, ShiftedTurns)
unfoldable pub shifted : ℤ → ℤ
shifted a = cond (lt_z a (neg_ℤ (pos 180000000))) (a +ℤ pos 360000000) (cond (lt_z a (pos 180000000)) a (a -ℤ pos 360000000))

-- d, the longitude less m0, shifted
unfoldable pub offset_of : Sheet → ℤ → ℤ
offset_of s longitude = shifted (longitude -ℤ m0 s)

-- on the sheet: longitude within ±180,000,000, fs ≤ latitude ≤ fn and -w ≤ d ≤ w
unfoldable pub on_sheet : Sheet → (latitude longitude : ℤ) → Bool
on_sheet s latitude longitude = size_up_to 180000000 longitude && is_within (fs s) (fn s) latitude && size_up_to s.half_width (offset_of s longitude)
