-- Document 01, 'From globe to map' and 'From map to globe': what needs of a sheet only its cone constant n and its half-width w. `le_z` and `lt_z` are the tests of ≤ and <, `quot_z` drops the fraction toward zero.
use Rattle.std.specs.Prelude.{Bool, true, false, ℕ, zero, suc, ℤ, pos, neg_ℤ, nat_abs, ◌+ℤ◌, ◌-ℤ◌, ◌*ℤ◌}
use Rattle.std.specs.Int.Signed.{le_z, lt_z, quot_z}
use Rattle.arith.specs.Bounds.{Within, Size}
use Rattle.trig.specs.declared.SineCosine.{SineCosine}
use Rattle.trig.specs.Trig.{ONE, angle_of, sine_of, cosine_of, root_of}

-- the quotient n × angle(a) / ONE: the checks take it of f2 - f1 and g - f1, globe to map of d, map to globe of the edges and of each mid, where it is the angle on the cone
unfoldable pub cone_angle_of : (n a : ℤ) → ℤ
cone_angle_of n a = quot_z (n *ℤ angle_of a) ONE

-- a map point lies x beside the apex and v below it: x is up to 2^29 in size, and v, r0 - y with r0 up to 2^28 and y up to 2^29 in size, is above 0
abbrev pub IsX : ℤ → Type 0
IsX x = Size (pos 536870912) x

abbrev pub IsV : ℤ → Type 0
IsV v = Within (pos 1) (pos 805306368) v

-- r = root(x² + v²)
unfoldable pub radius_at : (x v : ℤ) → ℤ
radius_at x v = pos (root_of (nat_abs (x *ℤ x +ℤ v *ℤ v)))

-- cosine(d) and sine(d) are taken at the t that d gives
abbrev pub sine_at : (n d : ℤ) → ℤ
sine_at n d = sine_of (cone_angle_of n d)

abbrev pub cosine_at : (n d : ℤ) → ℤ
cosine_at n d = cosine_of (cone_angle_of n d)

abbrev pub sine_cosine_at : (n d : ℤ) → SineCosine
sine_cosine_at n d = record { «sine» = sine_at n d; «cosine» = cosine_at n d }

-- the point does not lie left of d: x × cosine(d) ≥ v × sine(d)
unfoldable pub not_left : (n x v d : ℤ) → Bool
not_left n x v d = le_z (v *ℤ sine_at n d) (x *ℤ cosine_at n d)

-- nor right of it: x × cosine(d) ≤ v × sine(d)
unfoldable pub not_right : (n x v d : ℤ) → Bool
not_right n x v d = le_z (x *ℤ cosine_at n d) (v *ℤ sine_at n d)

-- The offset d comes from lo = -w, hi = w: while hi - lo > 1, mid = lo + quotient (hi - lo) / 2, and mid replaces lo if x × cosine(mid) ≥ v × sine(mid), else hi. d is the last lo.
abbrev pub middle : (lo hi : ℤ) → ℤ
middle lo hi = lo +ℤ quot_z (hi -ℤ lo) (pos 2)

-- the loop, with a bound on its turns (`elim test [ true ↦ a | false ↦ b ]` is a where the test holds, else b)
unfoldable pub halved : (turns : ℕ) (n x v lo hi : ℤ) → ℤ
halved zero n x v lo hi = lo
halved (suc turns) n x v lo hi =
    let mid = middle lo hi in
    elim (lt_z (pos 1) (hi -ℤ lo)) [
      | true ↦ elim (not_left n x v mid) [ true ↦ halved turns n x v mid hi | false ↦ halved turns n x v lo mid ]
      | false ↦ lo
    ]

-- hi - lo turns are never too few: the loop has ended by then (Laws: LastLoEnds, LastLoGoesOn)
unfoldable pub last_lo : (n x v lo hi : ℤ) → ℤ
last_lo n x v lo hi = halved (nat_abs (hi -ℤ lo)) n x v lo hi

abbrev pub offset_at : (n x v w : ℤ) → ℤ
offset_at n x v w = last_lo n x v (neg_ℤ w) w
