-- Document 01, 'Angle, sine, cosine, root'. `quot_z` is its quotient: it drops the fraction toward zero.
use Rattle.std.specs.Prelude.{Bool, cond, ◌≡◌, ◌⊎◌, List, [], ◌∷◌, ℕ, zero, suc, ◌+◌, ◌*◌, ◌-◌, ◌^◌, leb, ltb, ℤ, pos, nat_abs, ◌+ℤ◌, ◌-ℤ◌, ◌*ℤ◌, ◌≤ℤ◌, ◌<ℤ◌, Result}
use Rattle.std.specs.Int.Signed.{quot_z}
use Rattle.arith.specs.Bounds.{Within, is_within, size_up_to}
use Rattle.refusal.specs.declared.Refusal.{Refusal}
use Rattle.refusal.specs.declared.Refusal.TheVariants.{OutOfRange}
use Rattle.refusal.specs.Numbers.{Reply, accepted, refused, reply_by}

-- ONE means 2^30 ('Units and the sheet')
abbrev pub ONE : ℤ
ONE = pos 1073741824

-- the factor of angle: 2^60 × pi / 180,000,000, fraction dropped (Laws: AngleFactor)
abbrev pub angle_factor : ℕ
angle_factor = 20122276272

-- angle(a), units to radians in ONEths
unfoldable pub angle_of : ℤ → ℤ
angle_of a = quot_z (a *ℤ pos angle_factor) ONE

-- factors, as two rows of six
abbrev pub sine_row : List ℕ
sine_row = 6 ∷ 20 ∷ 42 ∷ 72 ∷ 110 ∷ 156 ∷ []

abbrev pub cosine_row : List ℕ
cosine_row = 2 ∷ 12 ∷ 30 ∷ 56 ∷ 90 ∷ 132 ∷ []

-- the row is one of the two
abbrev pub IsRow : List ℕ → Type 0
IsRow row = (row ≡ sine_row) ⊎ (row ≡ cosine_row)

-- for t, z is the quotient t × t / ONE
unfoldable pub square_of : ℤ → ℤ
square_of t = quot_z (t *ℤ t) ONE

-- such a z for a t that sine and cosine take: from 0 to 2.25 ONE
abbrev pub IsSquare : ℤ → Type 0
IsSquare z = Within (pos 0) (pos 2415919104) z

-- p starts as ONE; from the row's last factor to its first it becomes ONE less the quotient of z × p by ONE × factor
unfoldable pub series_of : List ℕ → ℤ → ℤ
series_of [] z = ONE
series_of (f ∷ fs) z = ONE -ℤ quot_z (z *ℤ series_of fs z) (ONE *ℤ pos f)

-- the last p
unfoldable pub cosine_of : ℤ → ℤ
cosine_of t = series_of cosine_row (square_of t)

-- the quotient t × p / ONE with the sine row's p
unfoldable pub sine_of : ℤ → ℤ
sine_of t = quot_z (t *ℤ series_of sine_row (square_of t)) ONE

-- root(q), q ≥ 1: the whole number r with (2r - 1)² ≤ 4q < (2r + 1)²
pub record Root (q r : ℤ) : Type 0 where
  pub low : ((pos 2 *ℤ r -ℤ pos 1) *ℤ (pos 2 *ℤ r -ℤ pos 1)) ≤ℤ (pos 4 *ℤ q)
  pub high : (pos 4 *ℤ q) <ℤ ((pos 2 *ℤ r +ℤ pos 1) *ℤ (pos 2 *ℤ r +ℤ pos 1))

-- How it is found; that root_of q is the one r with Root q r is said in Laws: IsRoot.
-- From below, the largest s with s² ≤ q: the k lowest bits of s are still to come, and the next of them, 2^(k-1), is set where the square stays at most q.
unfoldable pub root_bits : ℕ → ℕ → ℕ → ℕ
root_bits zero q s = s
root_bits (suc k) q s = root_bits k q (cond (leb ((s + 2 ^ k) * (s + 2 ^ k)) q) (s + 2 ^ k) s)

unfoldable pub root_below : ℕ → ℕ
root_below q = root_bits 31 q 0

-- Then rounded: one more where the remainder q - s² is more than s, which is where 4q ≥ (2s + 1)². (s² ≤ q, so nothing is cut off at 0.)
unfoldable pub rounded : ℕ → ℕ → ℕ
rounded s remainder = cond (ltb s remainder) (s + 1) s

unfoldable pub root_of : ℕ → ℕ
root_of q = rounded (root_below q) (q - root_below q * root_below q)

-- a step offered to callers: its value where the number is in range, 12 outside
unfoldable pub offered : Bool → ℤ → Reply
offered in_range v = cond in_range (accepted (v ∷ [])) (refused 1 OutOfRange)

-- angle takes a of size up to 360,000,000
abbrev pub angle_limit : ℕ
angle_limit = 360000000

abbrev pub angle_reply : ℤ → Reply
angle_reply a = offered (size_up_to angle_limit a) (angle_of a)

-- sine and cosine take t of size up to 1,610,612,736
abbrev pub sine_limit : ℕ
sine_limit = 1610612736

abbrev pub sine_reply : ℤ → Reply
sine_reply t = offered (size_up_to sine_limit t) (sine_of t)

abbrev pub cosine_reply : ℤ → Reply
cosine_reply t = offered (size_up_to sine_limit t) (cosine_of t)

-- root takes q from 1 to 2^60 (nat_abs q is q there)
abbrev pub root_limit : ℕ
root_limit = 2 ^ 60

abbrev pub root_reply : ℤ → Reply
root_reply q = offered (is_within (pos 1) (pos root_limit) q) (pos (root_of (nat_abs q)))

-- the number and the value that an answer stands for
abbrev pub reply_of : Result ℤ Refusal → Reply
reply_of = reply_by 1 (λ v. v ∷ [])
