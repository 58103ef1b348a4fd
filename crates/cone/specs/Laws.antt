-- What holds on the cone: of its angle, of the halving, and of what takes the halving's place. Each is proved in proofs/, in the file that its comment names.
use Rattle.std.specs.Prelude.{true, cond, ◌≡◌, ℤ, pos, neg_ℤ, ◌+ℤ◌, ◌-ℤ◌, ◌*ℤ◌, ◌≤ℤ◌, ◌<ℤ◌}
use Rattle.std.specs.Int.Signed.{quot_z}
use Rattle.arith.specs.Bounds.{Within, Size}
use Rattle.trig.specs.Trig.{ONE, angle_of}
use Rattle.monotone.specs.Laws.{Further}
use Rattle.cone.specs.Cone.{cone_angle_of, sine_at, not_left, not_right, middle, last_lo, offset_at}
use Rattle.cone.specs.Settled.{east_of, least_rise}

-- west and east mirror on the cone (ConeAngles)
abbrev pub ConeAngleOdd : Type 0
ConeAngleOdd = (n a : ℤ) → cone_angle_of n (neg_ℤ a) ≡ neg_ℤ (cone_angle_of n a)

-- an angle on the cone is no larger than that on the globe (ConeAngles)
abbrev pub ConeAngleSize : Type 0
ConeAngleSize = (n m a : ℤ) → Size ONE n → Size m a → Size (angle_of m) (cone_angle_of n a)

-- where 0 ≤ n ≤ ONE, it changes by at most 19 from an offset to the next (ConeAngles)
abbrev pub ConeAngleStep : Type 0
ConeAngleStep = (n d : ℤ) → Within (pos 0) ONE n → Size (pos 19) (cone_angle_of n (d +ℤ pos 1) -ℤ cone_angle_of n d)

-- the halving is document 01's loop: it ends where hi - lo ≤ 1, and goes on else with mid in place of lo or of hi (Halving)
abbrev pub LastLoEnds : Type 0
LastLoEnds = (n x v lo hi : ℤ) → (hi -ℤ lo) ≤ℤ pos 1 → last_lo n x v lo hi ≡ lo

abbrev pub LastLoGoesOn : Type 0
LastLoGoesOn = (n x v lo hi : ℤ) → pos 1 <ℤ (hi -ℤ lo) →
    let mid = middle lo hi in
    last_lo n x v lo hi ≡ cond (not_left n x v mid) (last_lo n x v mid hi) (last_lo n x v lo mid)

-- a point that does not lie left of lo nor right of hi does not lie left of the last lo, d, nor right of d + 1 (Halving)
abbrev pub LastLoBetween : Type 0
LastLoBetween = (n x v lo hi : ℤ) → lo <ℤ hi → not_left n x v lo ≡ true → not_right n x v hi ≡ true →
    let d = last_lo n x v lo hi in
    (lo ≤ℤ d) × (d <ℤ hi) × (not_left n x v d ≡ true) × (not_right n x v (d +ℤ pos 1) ≡ true)

-- ---- the halving need not be done

-- from an offset, 0 or east of it, to a larger one the angle goes further, as sine and cosine ask to be monotone (ConeAngles)
abbrev pub ConeAngleFurther : Type 0
ConeAngleFurther = (n d d' : ℤ) → Within (pos 0) ONE n → pos 0 ≤ℤ d → d <ℤ d' → d' ≤ℤ pos 60000000 →
    (pos 0 ≤ℤ cone_angle_of n d) × Further (cone_angle_of n d) (cone_angle_of n d')

-- and by the quotient 18 × n / ONE at least (ConeAngles)
abbrev pub ConeAngleRises : Type 0
ConeAngleRises = (n d d' : ℤ) → Within (pos 0) ONE n → pos 0 ≤ℤ d → d <ℤ d' → (cone_angle_of n d +ℤ quot_z (pos 18 *ℤ n) ONE) ≤ℤ cone_angle_of n d'

-- so a point that does not lie left of an offset does not lie left of a smaller one (Cuts)
abbrev pub NotLeftFalls : Type 0
NotLeftFalls = (n x v d d' : ℤ) → Within (pos 0) ONE n → pos 0 ≤ℤ v → Size (pos 60000000) d → Size (pos 60000000) d' → d ≤ℤ d' →
    not_left n x v d' ≡ true → not_left n x v d ≡ true

-- so the halving gives the same offset wherever it is cut (Cuts)
abbrev pub LastLoCut : Type 0
LastLoCut = (n x v lo mid hi : ℤ) → Within (pos 0) ONE n → pos 0 ≤ℤ v → Size (pos 60000000) lo → Size (pos 60000000) hi → lo <ℤ mid → mid <ℤ hi →
    last_lo n x v lo hi ≡ cond (not_left n x v mid) (last_lo n x v mid hi) (last_lo n x v lo mid)

-- from an offset, 0 or east of it, to a larger one up to w the sine rises by least_rise at least (Settling)
abbrev pub SineRisesLeast : Type 0
SineRisesLeast = (n w d d' : ℤ) → Within (pos 0) ONE n → w ≤ℤ pos 60000000 → pos 0 ≤ℤ d → d <ℤ d' → d' ≤ℤ w → (sine_at n d +ℤ least_rise n w) ≤ℤ sine_at n d'

-- so one evaluation settles the offset of a point that lies less than v × least_rise east of d, or up to that west of it: it is d where the point does not lie left of d, else d - 1 (Settling)
abbrev pub SettledHere : Type 0
SettledHere = (n x v w d : ℤ) → Within (pos 0) ONE n → pos 0 ≤ℤ v → w ≤ℤ pos 60000000 → neg_ℤ w <ℤ d → d <ℤ w →
    pos 0 ≤ℤ east_of n x v d → east_of n x v d <ℤ (v *ℤ least_rise n w) → offset_at n x v w ≡ d

abbrev pub SettledBefore : Type 0
SettledBefore = (n x v w d : ℤ) → Within (pos 0) ONE n → pos 0 ≤ℤ v → w ≤ℤ pos 60000000 → neg_ℤ w <ℤ d → d <ℤ w →
    east_of n x v d <ℤ pos 0 → (pos 0 -ℤ v *ℤ least_rise n w) ≤ℤ east_of n x v d → offset_at n x v w ≡ d -ℤ pos 1
