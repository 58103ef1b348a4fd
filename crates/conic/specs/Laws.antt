-- What holds of globe to map and of map to globe: the mirror, and the laws that the other crates go by. Each is proved in proofs/, in the file that its comment names. Demand 3 is in `accuracy`.
use Rattle.std.specs.Prelude.{true, [], ◌∷◌, ◌++◌, ◌≡◌, ℤ, pos, neg_ℤ, ◌+ℤ◌, ◌*ℤ◌, ◌<ℤ◌, Result}
use Rattle.refusal.specs.declared.Refusal.{Refusal}
use Rattle.refusal.specs.Numbers.{accepted}
use Rattle.refusal.specs.Rules.{in_order}
use Rattle.trig.specs.Trig.{Root}
use Rattle.cone.specs.Cone.{radius_at}
use Rattle.sheet.specs.declared.Sheet.{Sheet}
use Rattle.sheet.specs.Sheets.{passes_checks, sheet_rules, on_sheet}
use Rattle.sheet.specs.Laws.{mirrored}
use Rattle.conic.specs.declared.MapPoint.{MapPoint}
use Rattle.conic.specs.declared.Position.{Position}
use Rattle.conic.specs.Conic.{x_of, y_of, forward_reply, map_reply_of}
use Rattle.conic.specs.MapToGlobe.{point_in_range, v_of, point_on_sheet, latitude_of, longitude_of, point_rules, inverse_reply, globe_reply_of}

-- two answers never share a number and values, so that the contracts fix the answer (Answers)
abbrev pub DistinctMapReplies : Type 0
DistinctMapReplies = (a b : Result MapPoint Refusal) → map_reply_of a ≡ map_reply_of b → a ≡ b

abbrev pub DistinctGlobeReplies : Type 0
DistinctGlobeReplies = (a b : Result Position Refusal) → globe_reply_of a ≡ globe_reply_of b → a ≡ b

-- forward answers exactly what is on a sheet that passes its checks, and that with x and y; a reply with the number 0 is such an answer (Answered)
abbrev pub OnSheetAnswered : Type 0
OnSheetAnswered = (s : Sheet) (latitude longitude : ℤ) → passes_checks s ≡ true → on_sheet s latitude longitude ≡ true →
    forward_reply s latitude longitude ≡ accepted (x_of s latitude longitude ∷ y_of s latitude longitude ∷ [])

abbrev pub NotRefusedPoint : Type 0
NotRefusedPoint = (s : Sheet) (latitude longitude : ℤ) → (forward_reply s latitude longitude).number ≡ 0 →
    forward_reply s latitude longitude ≡ accepted (x_of s latitude longitude ∷ y_of s latitude longitude ∷ [])

abbrev pub AnsweredOnSheet : Type 0
AnsweredOnSheet = (s : Sheet) (latitude longitude x y : ℤ) → forward_reply s latitude longitude ≡ accepted (x ∷ y ∷ []) →
    (passes_checks s ≡ true) × (on_sheet s latitude longitude ≡ true) × (x ≡ x_of s latitude longitude) × (y ≡ y_of s latitude longitude)

-- THE MIRROR. Longitudes mirrored about the central meridian give -x and the same y (Mirrored)
abbrev pub Mirror : Type 0
Mirror = (s : Sheet) (latitude longitude x y : ℤ) → forward_reply s latitude longitude ≡ accepted (x ∷ y ∷ []) →
    forward_reply s latitude (mirrored s longitude) ≡ accepted (neg_ℤ x ∷ y ∷ [])

-- longitudes -180,000,000 and 180,000,000 are the same meridian, on every sheet (Mirrored)
abbrev pub SameMeridian : Type 0
SameMeridian = (s : Sheet) (latitude : ℤ) → forward_reply s latitude (neg_ℤ (pos 180000000)) ≡ forward_reply s latitude (pos 180000000)

-- r is document 01's root of x² + v², for a point in range and below the cone's apex (Distance)
abbrev pub RadiusIsRoot : Type 0
RadiusIsRoot = (s : Sheet) (x y : ℤ) → passes_checks s ≡ true → point_in_range x y ≡ true →
    let v = v_of s y in
    pos 0 <ℤ v → Root (x *ℤ x +ℤ v *ℤ v) (radius_at x v)

-- the position of a map point that no other refusal meets is always on the sheet (OwnSheet)
abbrev pub OnItsOwnSheet : Type 0
OnItsOwnSheet = (s : Sheet) (x y : ℤ) → passes_checks s ≡ true → point_on_sheet s x (v_of s y) ≡ true →
    on_sheet s (latitude_of s x y) (longitude_of s x y) ≡ true

-- so the answer is the same without the test of it, and 15 never comes back (OwnSheet)
abbrev pub NoTestNeeded : Type 0
NoTestNeeded = (s : Sheet) (x y : ℤ) →
    inverse_reply s x y ≡ in_order 2 (sheet_rules s ++ point_rules s x y) (accepted (latitude_of s x y ∷ longitude_of s x y ∷ []))

abbrev pub NeverFifteen : Type 0
NeverFifteen = (s : Sheet) (x y : ℤ) → (inverse_reply s x y).number ≡ 15 → ⊥

-- inverse answers exactly the points in range that are on a sheet that passes its checks, and those with latitude and longitude (OwnSheet)
abbrev pub PointAnswered : Type 0
PointAnswered = (s : Sheet) (x y : ℤ) → passes_checks s ≡ true → point_in_range x y ≡ true → point_on_sheet s x (v_of s y) ≡ true →
    inverse_reply s x y ≡ accepted (latitude_of s x y ∷ longitude_of s x y ∷ [])

abbrev pub NotRefusedOnSheet : Type 0
NotRefusedOnSheet = (s : Sheet) (x y : ℤ) → (inverse_reply s x y).number ≡ 0 →
    (passes_checks s ≡ true) × (point_in_range x y ≡ true) × (point_on_sheet s x (v_of s y) ≡ true)
