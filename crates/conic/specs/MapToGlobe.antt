-- Document 01, 'From map to globe'. What needs of the sheet only n and w is in `cone`: root(x² + v²), left and right of an offset, and the halving.
use Rattle.std.specs.Prelude.{Bool, ◌&&◌, List, [], ◌∷◌, ◌++◌, ℕ, ℤ, pos, neg_ℤ, ◌+ℤ◌, ◌-ℤ◌, Result}
use Rattle.std.specs.Int.Signed.{lt_z}
use Rattle.arith.specs.Bounds.{is_within, size_up_to}
use Rattle.refusal.specs.declared.Refusal.{Refusal}
use Rattle.refusal.specs.declared.Refusal.TheVariants.{OffSheet, OutOfRange, AnswerOffSheet}
use Rattle.refusal.specs.Numbers.{Reply, accepted, reply_by}
use Rattle.refusal.specs.Rules.{Rule, ◌else-refuse◌, in_order}
use Rattle.cone.specs.Cone.{radius_at, sine_cosine_at, not_left, not_right, offset_at}
use Rattle.sheet.specs.declared.Sheet.{Sheet}
use Rattle.sheet.specs.Sheets.{m0, fs, fn, w, n, g, sheet_rules, shifted, on_sheet}
use Rattle.conic.specs.declared.EdgeValues.{EdgeValues}
use Rattle.conic.specs.declared.Position.{Position}
use Rattle.conic.specs.Conic.{r0}

-- Refusals 4, 5 (`sheet_rules`), then 12 when |x| or |y| passes 536,870,912.
abbrev pub point_limit : ℕ
point_limit = 536870912

abbrev pub point_in_range : (x y : ℤ) → Bool
point_in_range x y = size_up_to point_limit x && size_up_to point_limit y

-- Let v = r0 - y
abbrev pub v_of : Sheet → (y : ℤ) → ℤ
v_of s y = r0 s -ℤ y

-- Off the sheet (11) when v ≤ 0; or r = root(x² + v²) lies outside g - fn to g - fs; or the point lies left of the edge -w, or right of the edge w.
unfoldable pub point_on_sheet : Sheet → (x v : ℤ) → Bool
point_on_sheet s x v =
    lt_z (pos 0) v
    && is_within (g s -ℤ fn s) (g s -ℤ fs s) (radius_at x v)
    && not_left (n s) x v (neg_ℤ (w s))
    && not_right (n s) x v (w s)

-- Latitude is g - r.
abbrev pub latitude_at : Sheet → (r : ℤ) → ℤ
latitude_at s r = g s -ℤ r

-- The offset d is `offset_at`, from lo = -w and hi = w. Longitude is m0 + d, shifted by 360,000,000 into -180,000,000 up to, not including, 180,000,000.
abbrev pub longitude_at : Sheet → (d : ℤ) → ℤ
longitude_at s d = shifted (m0 s +ℤ d)

-- so a map point has this latitude and this longitude
unfoldable pub latitude_of : Sheet → (x y : ℤ) → ℤ
latitude_of s x y = latitude_at s (radius_at x (v_of s y))

unfoldable pub longitude_of : Sheet → (x y : ℤ) → ℤ
longitude_of s x y = longitude_at s (offset_at (n s) x (v_of s y) (w s))

-- Before it is handed out, the position is held against the sheet's own edges; refusal 15 if it were off.
abbrev pub held_reply : Sheet → (latitude longitude : ℤ) → Reply
held_reply s latitude longitude = in_order 2 ((on_sheet s latitude longitude else-refuse AnswerOffSheet) ∷ []) (accepted (latitude ∷ longitude ∷ []))

-- the point's own refusals: 12, then 11
unfoldable pub point_rules : Sheet → (x y : ℤ) → List Rule
point_rules s x y = (point_in_range x y else-refuse OutOfRange) ∷ (point_on_sheet s x (v_of s y) else-refuse OffSheet) ∷ []

-- what map to globe comes to: one of those refusals, else latitude and longitude
abbrev pub inverse_reply : Sheet → (x y : ℤ) → Reply
inverse_reply s x y = in_order 2 (sheet_rules s ++ point_rules s x y) (held_reply s (latitude_of s x y) (longitude_of s x y))

-- the number and the values that an answer stands for
abbrev pub globe_reply_of : Result Position Refusal → Reply
globe_reply_of = reply_by 2 (λ p. p.latitude ∷ p.longitude ∷ [])

-- What depends on the sheet alone: r0, and sine and cosine at both edges.
abbrev pub edge_values_of : Sheet → EdgeValues
edge_values_of s = record { origin_radius = r0 s; «west» = sine_cosine_at (n s) (neg_ℤ (w s)); «east» = sine_cosine_at (n s) (w s) }
