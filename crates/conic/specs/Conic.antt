-- Document 01, 'From globe to map': the equidistant conic projection on the sphere, northern cone (Snyder, chapter 16).
use Rattle.std.specs.Prelude.{Bool, ◌&&◌, List, [], ◌∷◌, ◌++◌, ℤ, ◌-ℤ◌, ◌*ℤ◌, Result}
use Rattle.std.specs.Int.Signed.{quot_z}
use Rattle.arith.specs.Bounds.{size_up_to}
use Rattle.refusal.specs.declared.Refusal.{Refusal}
use Rattle.refusal.specs.declared.Refusal.TheVariants.{OffSheet, OutOfRange}
use Rattle.refusal.specs.Numbers.{Reply, accepted, reply_by}
use Rattle.refusal.specs.Rules.{Rule, ◌else-refuse◌, in_order}
use Rattle.trig.specs.Trig.{ONE, sine_of, cosine_of}
use Rattle.cone.specs.Cone.{cone_angle_of}
use Rattle.sheet.specs.declared.Sheet.{Sheet}
use Rattle.sheet.specs.Sheets.{f0, n, g, sheet_rules, offset_of, on_sheet}
use Rattle.conic.specs.declared.MapPoint.{MapPoint}

-- Refused in this order: sheet limits 4, constants 5 (`sheet_rules`), latitude beyond ±90,000,000 or longitude beyond ±180,000,000 with 12, off the sheet with 11.
abbrev pub in_range : (latitude longitude : ℤ) → Bool
in_range latitude longitude = size_up_to 90000000 latitude && size_up_to 180000000 longitude

unfoldable pub position_rules : Sheet → (latitude longitude : ℤ) → List Rule
position_rules s latitude longitude = (in_range latitude longitude else-refuse OutOfRange) ∷ (on_sheet s latitude longitude else-refuse OffSheet) ∷ []

-- d is `offset_of`; t is the quotient n × angle(d) / ONE
unfoldable pub t_of : Sheet → (longitude : ℤ) → ℤ
t_of s longitude = cone_angle_of (n s) (offset_of s longitude)

-- r = g - latitude; r0 = g - f0
abbrev pub r_of : Sheet → (latitude : ℤ) → ℤ
r_of s latitude = g s -ℤ latitude

abbrev pub r0 : Sheet → ℤ
r0 s = r_of s (f0 s)

-- x is the quotient r × sine(t) / ONE
unfoldable pub x_at : (r t : ℤ) → ℤ
x_at r t = quot_z (r *ℤ sine_of t) ONE

-- y is r0 less the quotient r × cosine(t) / ONE
unfoldable pub y_at : (r0 r t : ℤ) → ℤ
y_at r0 r t = r0 -ℤ quot_z (r *ℤ cosine_of t) ONE

unfoldable pub x_of : Sheet → (latitude longitude : ℤ) → ℤ
x_of s latitude longitude = x_at (r_of s latitude) (t_of s longitude)

unfoldable pub y_of : Sheet → (latitude longitude : ℤ) → ℤ
y_of s latitude longitude = y_at (r0 s) (r_of s latitude) (t_of s longitude)

-- what globe to map comes to: one of those refusals, else x and y
abbrev pub forward_reply : Sheet → (latitude longitude : ℤ) → Reply
forward_reply s latitude longitude =
    in_order 2 (sheet_rules s ++ position_rules s latitude longitude) (accepted (x_of s latitude longitude ∷ y_of s latitude longitude ∷ []))

-- the number and the values that an answer stands for
abbrev pub map_reply_of : Result MapPoint Refusal → Reply
map_reply_of = reply_by 2 (λ p. p.x ∷ p.y ∷ [])
