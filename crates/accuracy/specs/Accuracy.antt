-- Demand 3. Each statement is proved in proofs/, in the file that its comment names.
use Rattle.std.specs.Prelude.{true, [], ◌∷◌, ◌≡◌, ℤ, pos, ◌+ℤ◌, ◌-ℤ◌, ◌*ℤ◌, ◌≤ℤ◌}
use Rattle.arith.specs.Bounds.{Size}
use Rattle.refusal.specs.Numbers.{accepted}
use Rattle.trig.specs.Exact.{Near}
use Rattle.sheet.specs.declared.Sheet.{Sheet}
use Rattle.sheet.specs.Sheets.{passes_checks, on_sheet}
use Rattle.conic.specs.Conic.{x_of, y_of, forward_reply}
use Rattle.conic.specs.MapToGlobe.{latitude_of, longitude_of, inverse_reply}
use Rattle.accuracy.specs.Exact.{X, Y}

-- DEMAND 3, FIRST SENTENCE. On every sheet that passes the checks every position on it is answered, and is less than 3 units from Snyder's exact value (Accuracy)
abbrev pub LessThanThreeUnitsOff : Type 0
LessThanThreeUnitsOff = (s : Sheet) (latitude longitude : ℤ) → passes_checks s ≡ true → on_sheet s latitude longitude ≡ true →
    let x = x_of s latitude longitude in
    let y = y_of s latitude longitude in
    (forward_reply s latitude longitude ≡ accepted (x ∷ y ∷ [])) × Near 3 x (X s latitude longitude) × Near 3 y (Y s latitude longitude)

-- DEMAND 3, SECOND SENTENCE. Every map point that is not refused is answered with a position on the sheet that projects back within 16 units: forward does not refuse it,
-- its x and its y are at most 16 from the point's, each, and so is the distance, whose square is at most 256 (BackAndForth)
abbrev pub BackWithinSixteenUnits : Type 0
BackWithinSixteenUnits = (s : Sheet) (x y : ℤ) → (inverse_reply s x y).number ≡ 0 →
    let latitude = latitude_of s x y in
    let longitude = longitude_of s x y in
    let x' = x_of s latitude longitude in
    let y' = y_of s latitude longitude in
    (inverse_reply s x y ≡ accepted (latitude ∷ longitude ∷ []))
    × (on_sheet s latitude longitude ≡ true)
    × (forward_reply s latitude longitude ≡ accepted (x' ∷ y' ∷ []))
    × Size (pos 16) (x' -ℤ x)
    × Size (pos 16) (y' -ℤ y)
    × (((x' -ℤ x) *ℤ (x' -ℤ x) +ℤ (y' -ℤ y) *ℤ (y' -ℤ y)) ≤ℤ pos 256)
