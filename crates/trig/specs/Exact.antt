-- Document 01, 'From globe to map': what the exact value for demand 3 is made of. All are fractions of whole numbers.
use Rattle.std.specs.Prelude.{ℕ, zero, suc, ◌*◌, ◌^◌, ◌<◌, List, [], ◌∷◌, ℤ, pos, nat_abs, ◌-ℤ◌, ◌*ℤ◌}

-- num / den, not reduced; den is at least 1 in all that follows
pub record Fraction : Type 0 where
  pub num : ℤ
  pub den : ℕ

infixl 60 ◌minus◌
infixl 70 ◌times◌
infix 80 ◌over◌
abbrev pub ◌over◌ : ℤ → ℕ → Fraction
a over b = record { num = a; den = b }

abbrev pub whole : ℤ → Fraction
whole a = a over 1

abbrev pub ◌times◌ : Fraction → Fraction → Fraction
p times q = (p.num *ℤ q.num) over (p.den * q.den)

abbrev pub ◌minus◌ : Fraction → Fraction → Fraction
p minus q = (p.num *ℤ pos q.den -ℤ q.num *ℤ pos p.den) over (p.den * q.den)

unfoldable pub power : Fraction → ℕ → Fraction
power t zero = whole (pos 1)
power t (suc k) = t times power t k

unfoldable pub factorial : ℕ → ℕ
factorial zero = 1
factorial (suc k) = suc k * factorial k

-- a power series whose signs alternate, through the powers of the list: t^a / a! - (t^b / b! - (t^c / c! - ..))
unfoldable pub series : Fraction → List ℕ → Fraction
series t [] = whole (pos 0)
series t (k ∷ ks) = power t k times (pos 1 over factorial k) minus series t ks

-- the sine is its power series through power 21, the cosine through power 22
unfoldable pub sine : Fraction → Fraction
sine t = series t (1 ∷ 3 ∷ 5 ∷ 7 ∷ 9 ∷ 11 ∷ 13 ∷ 15 ∷ 17 ∷ 19 ∷ 21 ∷ [])

unfoldable pub cosine : Fraction → Fraction
cosine t = series t (0 ∷ 2 ∷ 4 ∷ 6 ∷ 8 ∷ 10 ∷ 12 ∷ 14 ∷ 16 ∷ 18 ∷ 20 ∷ 22 ∷ [])

-- pi is 3,141,592,653,589,793,238 / 10^18
abbrev pub pi : Fraction
pi = pos 3141592653589793238 over (10 ^ 18)

-- the radians of d are d × pi / 180,000,000
abbrev pub radians : ℤ → Fraction
radians d = whole d times pi times (pos 1 over 180000000)

-- x is less than k from N / D: |x D - N| < k D (never where D is 0)
abbrev pub Near : ℕ → ℤ → Fraction → Type 0
Near k x q = nat_abs (x *ℤ pos q.den -ℤ q.num) < k * q.den
