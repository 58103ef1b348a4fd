-- Demand 3, first sentence: what is on a sheet that passes its checks is answered, less than 3 units from the exact value. Assumes nothing.
use mathlib.Core.Path.{◌≡◌, refl}
use lib.IntN.{ℤ}
use Rattle.sheet.specs.declared.Sheet.{Sheet}
use Rattle.sheet.specs.Sheets.{n, offset_of}
use Rattle.conic.specs.Conic.{t_of, r_of, r0, x_at, y_at, x_of, y_of}
use Rattle.accuracy.specs.Exact.{theta_of, theta, X, Y}
use Rattle.accuracy.specs.Accuracy.{LessThanThreeUnitsOff}
use Rattle.conic.proofs.Ranges.{n_size, r_size, d_size}
use Rattle.conic.proofs.Answered.{on_sheet-answered}
use Rattle.accuracy.proofs.NearExact.{x_near, y_near}

theta-is : (s : Sheet) (longitude : ℤ) → theta s longitude ≡ theta_of (n s) (offset_of s longitude)
unfolding theta
theta-is s longitude = refl

pub less_than_three_units_off : LessThanThreeUnitsOff
unfolding x_of y_of x_at y_at t_of X Y
less_than_three_units_off s latitude longitude p o =
    let d = offset_of s longitude in
    let r = r_of s latitude in
    let r-up-to = r_size s p latitude longitude o in
    let d-up-to = d_size s p latitude longitude o in
    rw (theta-is s longitude) (on_sheet-answered s latitude longitude p o, x_near r d (n s) r-up-to d-up-to (n_size s p), y_near r d (n s) r-up-to d-up-to (n_size s p) (r0 s))
