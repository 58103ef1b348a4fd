-- The laws of sheets that the other crates go by. Each is proved in proofs/, in the file that its comment names.
use Rattle.std.specs.Prelude.{true, ◌≡◌, ◌⊎◌, List, ◌++◌, ℕ, ℤ, pos, neg_ℤ, ◌+ℤ◌, ◌-ℤ◌, ◌*ℤ◌, ◌≤ℤ◌, ◌<ℤ◌, Result, Ok}
use Rattle.arith.specs.Bounds.{Within, Size}
use Rattle.refusal.specs.declared.Refusal.{Refusal}
use Rattle.refusal.specs.declared.Refusal.TheVariants.{SheetLimit, SheetConstants}
use Rattle.refusal.specs.Numbers.{Reply, refused}
use Rattle.refusal.specs.Rules.{Rule, in_order}
use Rattle.trig.specs.Trig.{ONE}
use Rattle.sheet.specs.declared.Sheet.{Sheet}
use Rattle.sheet.specs.Sheets.{f1, f2, f0, m0, fs, fn, w, n, g, within_limits, sheet_rules, passes_checks, check_reply, reply_of, shifted, offset_of, on_sheet}

-- two answers to a check never share a number, so that the contract fixes the answer (Answers)
abbrev pub DistinctReplies : Type 0
DistinctReplies = (a b : Result Unit Refusal) → reply_of a ≡ reply_of b → a ≡ b

-- it is accepted exactly where the sheet passes its checks (Answers)
abbrev pub GoodPasses : Type 0
GoodPasses = (s : Sheet) → reply_of (Ok tt) ≡ check_reply s → passes_checks s ≡ true

abbrev pub PassesGood : Type 0
PassesGood = (s : Sheet) → passes_checks s ≡ true → check_reply s ≡ reply_of (Ok tt)

-- with other rules behind them, the checks refuse with 4 or with 5, or the others decide (Answers)
abbrev pub ChecksFirst : Type 0
ChecksFirst = (s : Sheet) (k : ℕ) (others : List Rule) (reply : Reply) →
    let answer = in_order k (sheet_rules s ++ others) reply in
    (answer ≡ refused k SheetLimit) ⊎ (answer ≡ refused k SheetConstants) ⊎ (answer ≡ in_order k others reply)

-- the limits as orders of whole numbers, and back; a sheet that passes its checks is within them (Limits)
pub record InLimits (s : Sheet) : Type 0 where
  pub f1_least : pos 5000000 ≤ℤ f1 s
  pub f1_f2 : f1 s ≤ℤ f2 s
  pub f2_most : f2 s ≤ℤ pos 80000000
  pub fs_f1 : fs s ≤ℤ f1 s
  pub f2_fn : f2 s ≤ℤ fn s
  pub fs_least : pos 0 ≤ℤ fs s
  pub fs_f0 : fs s ≤ℤ f0 s
  pub f0_fn : f0 s ≤ℤ fn s
  pub fn_most : fn s ≤ℤ pos 90000000
  pub m0_least : neg_ℤ (pos 180000000) ≤ℤ m0 s
  pub m0_below : m0 s <ℤ pos 180000000
  pub w_least : pos 1 ≤ℤ w s
  pub w_most : w s ≤ℤ pos 60000000
  pub n_least : pos 134217728 ≤ℤ n s
  pub n_most : n s ≤ℤ ONE
  pub g_least : pos 1000000 ≤ℤ (g s -ℤ fn s)
  pub g_most : (g s -ℤ fs s) ≤ℤ pos 268435456

abbrev pub LimitsHold : Type 0
LimitsHold = (s : Sheet) → within_limits s ≡ true → InLimits s

abbrev pub HoldsLimits : Type 0
HoldsLimits = (s : Sheet) → InLimits s → within_limits s ≡ true

abbrev pub PassesLimits : Type 0
PassesLimits = (s : Sheet) → passes_checks s ≡ true → within_limits s ≡ true

-- within the limits the radius of a latitude between the edges is up to 2^28 units, a quarter of ONE (Limits)
abbrev pub RadiusSize : Type 0
RadiusSize = (s : Sheet) (f : ℤ) → InLimits s → Within (fs s) (fn s) f → Size (pos 268435456) (g s -ℤ f)

-- what is shifted lies in -180,000,000 ≤ d < 180,000,000: a difference of two longitudes is up to 360,000,000 in size, m0 + d up to 240,000,000, and 2 m0 less a longitude, as the mirror has it, up to 540,000,000 (Shifted)
abbrev pub ShiftedRange : Type 0
ShiftedRange = (a : ℤ) → neg_ℤ (pos 540000000) ≤ℤ a → a <ℤ pos 540000000 → (neg_ℤ (pos 180000000) ≤ℤ shifted a) × (shifted a <ℤ pos 180000000)

-- it differs from the plain one by a multiple of 360,000,000 (Shifted)
abbrev pub ShiftedTurns : Type 0
ShiftedTurns = (a : ℤ) → (k : ℤ) × (a ≡ shifted a +ℤ pos 360000000 *ℤ k)

-- so it is the one number in that range that does (Shifted)
abbrev pub ShiftedOnly : Type 0
ShiftedOnly = (a d k : ℤ) → neg_ℤ (pos 540000000) ≤ℤ a → a <ℤ pos 540000000 → neg_ℤ (pos 180000000) ≤ℤ d → d <ℤ pos 180000000 →
    a ≡ d +ℤ pos 360000000 *ℤ k → shifted a ≡ d

-- so the offset of a longitude lies there (Shifted)
abbrev pub OffsetRange : Type 0
OffsetRange = (s : Sheet) (longitude : ℤ) → within_limits s ≡ true → Size (pos 180000000) longitude →
    (neg_ℤ (pos 180000000) ≤ℤ offset_of s longitude) × (offset_of s longitude <ℤ pos 180000000)

-- what is on the sheet, as orders of whole numbers; and back (Positions)
pub record IsOnSheet (s : Sheet) (latitude longitude : ℤ) : Type 0 where
  pub longitude_range : Size (pos 180000000) longitude
  pub between_edges : Within (fs s) (fn s) latitude
  pub offset : Size (w s) (offset_of s longitude)

abbrev pub OnSheetHolds : Type 0
OnSheetHolds = (s : Sheet) (latitude longitude : ℤ) → on_sheet s latitude longitude ≡ true → IsOnSheet s latitude longitude

abbrev pub HoldsOnSheet : Type 0
HoldsOnSheet = (s : Sheet) (latitude longitude : ℤ) → IsOnSheet s latitude longitude → on_sheet s latitude longitude ≡ true

-- longitudes -180,000,000 and 180,000,000 are the same meridian (Meridians)
abbrev pub SameMeridian : Type 0
SameMeridian = (s : Sheet) (latitude : ℤ) → within_limits s ≡ true →
    let west = neg_ℤ (pos 180000000) in
    let east = pos 180000000 in
    (offset_of s west ≡ offset_of s east) × (on_sheet s latitude west ≡ on_sheet s latitude east)

-- the longitude at an offset from the central meridian, m0 + d shifted, lies in -180,000,000 up to, not including, 180,000,000, and has that offset (Meridians)
abbrev pub LongitudeAtOffset : Type 0
LongitudeAtOffset = (s : Sheet) (d : ℤ) → within_limits s ≡ true → Size (pos 60000000) d →
    let longitude = shifted (m0 s +ℤ d) in
    (neg_ℤ (pos 180000000) ≤ℤ longitude) × (longitude <ℤ pos 180000000) × (offset_of s longitude ≡ d)

-- the longitude that is the mirror of another about the central meridian, and that it is so on the sheet (Meridians)
unfoldable pub mirrored : Sheet → ℤ → ℤ
mirrored s longitude = shifted (pos 2 *ℤ m0 s -ℤ longitude)

abbrev pub MirroredOffset : Type 0
MirroredOffset = (s : Sheet) (latitude longitude : ℤ) → within_limits s ≡ true → on_sheet s latitude longitude ≡ true →
    (offset_of s (mirrored s longitude) ≡ neg_ℤ (offset_of s longitude)) × (on_sheet s latitude (mirrored s longitude) ≡ true)
