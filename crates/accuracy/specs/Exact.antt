-- Document 01, 'From globe to map': the exact value for demand 3. Fractions, pi, radians and the power series are trig's.
use Rattle.std.specs.Prelude.{ℤ}
use Rattle.trig.specs.Exact.{Fraction, whole, ◌over◌, ◌times◌, ◌minus◌, sine, cosine, radians}
use Rattle.sheet.specs.declared.Sheet.{Sheet}
use Rattle.sheet.specs.Sheets.{n, offset_of}
use Rattle.conic.specs.Conic.{r_of, r0}

-- theta is the radians of d times n / ONE (ONE is 1,073,741,824)
abbrev pub theta_of : (n d : ℤ) → Fraction
theta_of n d = radians d times (n over 1073741824)

unfoldable pub theta : Sheet → (longitude : ℤ) → Fraction
theta s longitude = theta_of (n s) (offset_of s longitude)

-- X = r × sine
unfoldable pub X : Sheet → (latitude longitude : ℤ) → Fraction
X s latitude longitude = whole (r_of s latitude) times sine (theta s longitude)

-- Y = r0 - r × cosine
unfoldable pub Y : Sheet → (latitude longitude : ℤ) → Fraction
Y s latitude longitude = whole (r0 s) minus whole (r_of s latitude) times cosine (theta s longitude)
