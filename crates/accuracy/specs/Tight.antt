-- How tight demand 3 is. Of its first sentence: a position 4 units off is ruled out, 1 unit for 3 would be false, and flooring is left to the mirror. Of its second: 0 or 1 units for 16 would be false.
-- All are proved in proofs/, by computation (Tightness).
use Rattle.std.specs.Prelude.{true, [], ◌∷◌, ◌≡◌, ℤ, pos, neg_ℤ, ◌+ℤ◌, ◌-ℤ◌, ◌*ℤ◌}
use Rattle.std.specs.Int.Signed.{shr_z}
use Rattle.arith.specs.Bounds.{Size}
use Rattle.refusal.specs.Numbers.{accepted}
use Rattle.trig.specs.Trig.{sine_of}
use Rattle.trig.specs.Exact.{Fraction, Near}
use Rattle.sheet.specs.declared.Sheet.{Sheet}
use Rattle.sheet.specs.Sheets.{passes_checks, on_sheet}
use Rattle.sheet.specs.Laws.{mirrored}
use Rattle.sheet.specs.Samples.{sheet_a}
use Rattle.conic.specs.Conic.{r_of, t_of, x_of, y_of}
use Rattle.conic.specs.MapToGlobe.{latitude_of, longitude_of, inverse_reply}
use Rattle.accuracy.specs.Exact.{X, Y}

-- a sheet whose cone has its apex far off: along the parallel of 13 degrees, with the nearest whole numbers to Snyder's constants
abbrev pub far_sheet : Sheet
far_sheet = record {
  first_parallel = pos 13000000;
  second_parallel = pos 13000000;
  origin_latitude = pos 13000000;
  central_meridian = pos 0;
  south_edge = pos 0;
  north_edge = pos 23000000;
  half_width = 60000000;
  cone_constant = 241539355;
  radius_constant = pos 261175287;
}

-- a position on a sheet that passes the checks: demand 3 speaks of it
abbrev pub OnGoodSheet : Sheet → (latitude longitude : ℤ) → Type 0
OnGoodSheet s latitude longitude = (passes_checks s ≡ true) × (on_sheet s latitude longitude ≡ true)

-- what is 4 from a, to either side, is not less than 3 from q
abbrev pub NotNearFourOff : ℤ → Fraction → Type 0
NotNearFourOff a q = (Near 3 (a +ℤ pos 4) q → ⊥) × (Near 3 (a -ℤ pos 4) q → ⊥)

-- A position that is 4 units off, in x or in y, does not satisfy the statement: document 01's case 8
abbrev pub FourUnitsOffIsFalse : Type 0
FourUnitsOffIsFalse =
    let latitude = pos 30000000 in
    let longitude = pos 70000000 in
    OnGoodSheet sheet_a latitude longitude
    × NotNearFourOff (x_of sheet_a latitude longitude) (X sheet_a latitude longitude)
    × NotNearFourOff (y_of sheet_a latitude longitude) (Y sheet_a latitude longitude)

-- The steps do not always come to less than 1 unit from the exact value: on farSheet's Equator, 3 degrees East, x is 1.39 units off
abbrev pub OneUnitIsFalse : Type 0
OneUnitIsFalse =
    let latitude = pos 0 in
    let longitude = pos 3000000 in
    OnGoodSheet far_sheet latitude longitude × (Near 1 (x_of far_sheet latitude longitude) (X far_sheet latitude longitude) → ⊥)

-- Flooring instead of dropping toward zero: on sheet A, 60 degrees west, x is then a unit from the mirror of its eastern x, and still less than 3 from the exact value.
-- So the mirror (conic's Laws: Mirror) rules it out, and demand 3 does not.
abbrev pub FloorBreaksMirror : Type 0
FloorBreaksMirror =
    let latitude = pos 30000000 in
    let east = pos 70000000 in
    let west = neg_ℤ (pos 50000000) in
    let floored = shr_z (r_of sheet_a latitude *ℤ sine_of (t_of sheet_a west)) 1073741824 in
    (mirrored sheet_a east ≡ west) × (floored ≡ neg_ℤ (x_of sheet_a latitude east) -ℤ pos 1) × Near 3 floored (X sheet_a latitude west)

-- From map to globe and forth again is not always exact, nor always within 1 unit: on sheet A this point comes back 2 units further left and 1 further up
abbrev pub OneUnitBackIsFalse : Type 0
OneUnitBackIsFalse =
    let x = pos 19198242 in
    let y = neg_ℤ (pos 7070257) in
    let off = x_of sheet_a (latitude_of sheet_a x y) (longitude_of sheet_a x y) -ℤ x in
    (inverse_reply sheet_a x y ≡ accepted (pos 21210162 ∷ pos 30473236 ∷ [])) × (Size (pos 0) off → ⊥) × (Size (pos 1) off → ⊥)
