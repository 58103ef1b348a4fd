-- The laws of angle, sine, cosine and root that the other crates go by. Each is proved in proofs/, in the file that its comment names.
use Rattle.std.specs.Prelude.{◌≡◌, ℕ, ◌+◌, ◌*◌, ◌/◌, ◌^◌, ◌≤◌, ◌<◌, ℤ, pos, neg_ℤ, nat_abs, ◌+ℤ◌, ◌-ℤ◌, ◌*ℤ◌, ◌≤ℤ◌, Result}
use Rattle.arith.specs.Bounds.{Within, Size}
use Rattle.refusal.specs.declared.Refusal.{Refusal}
use Rattle.trig.specs.Trig.{ONE, angle_factor, angle_of, sine_of, cosine_of, Root, root_below, root_of, sine_limit, root_limit, reply_of}

-- two answers never share a number and a value, so that the contracts fix the answer (Answers)
abbrev pub DistinctReplies : Type 0
DistinctReplies = (a b : Result ℤ Refusal) → reply_of a ≡ reply_of b → a ≡ b

-- the angle's factor is 2^60 × pi / 180,000,000, fraction dropped, with document 01's fraction for pi (Mirror)
abbrev pub AngleFactor : Type 0
AngleFactor = 2 ^ 60 * 3141592653589793238 / (180000000 * 10 ^ 18) ≡ angle_factor

-- west and east mirror: angle and sine are odd, cosine is even (Mirror)
abbrev pub AngleOdd : Type 0
AngleOdd = (a : ℤ) → angle_of (neg_ℤ a) ≡ neg_ℤ (angle_of a)

abbrev pub SineOdd : Type 0
SineOdd = (t : ℤ) → sine_of (neg_ℤ t) ≡ neg_ℤ (sine_of t)

abbrev pub CosineEven : Type 0
CosineEven = (t : ℤ) → cosine_of (neg_ℤ t) ≡ cosine_of t

-- sizes: |angle(a)| ≤ angle(m) where |a| ≤ m; |sine(t)| ≤ |t| and |cosine(t)| ≤ ONE where they take t (Sizes)
abbrev pub AngleSize : Type 0
AngleSize = (m a : ℤ) → Size m a → Size (angle_of m) (angle_of a)

abbrev pub SineSize : Type 0
SineSize = (t : ℤ) → Size (pos sine_limit) t → Size (pos (nat_abs t)) (sine_of t)

abbrev pub CosineSize : Type 0
CosineSize = (t : ℤ) → Size (pos sine_limit) t → Size ONE (cosine_of t)

-- sine and cosine lie near the circle: with S = sine(t) and C = cosine(t), |S² + C² - ONE²| ≤ 9.8 ONE for |t| up to angle(60,000,000) (Circle)
abbrev pub NearCircle : Type 0
NearCircle = (t : ℤ) → Size (angle_of (pos 60000000)) t →
    Size (pos 49 *ℤ ONE) (pos 5 *ℤ (sine_of t *ℤ sine_of t +ℤ cosine_of t *ℤ cosine_of t -ℤ ONE *ℤ ONE))

-- angle goes up by 0 to 19 from a to a + 1 (Spread)
abbrev pub AngleStep : Type 0
AngleStep = (a : ℤ) → Within (pos 0) (pos 19) (angle_of (a +ℤ pos 1) -ℤ angle_of a)

-- cosine(t) ≥ 0.4 ONE for |t| up to angle(60,000,000) (Spread)
abbrev pub CosineLeast : Type 0
CosineLeast = (t : ℤ) → Size (angle_of (pos 60000000)) t → (pos 2 *ℤ ONE) ≤ℤ (pos 5 *ℤ cosine_of t)

-- for t and t' of size up to angle(60,000,000) that differ by at most 19, their sines differ by at most 30 and their cosines by at most 26 (Spread)
abbrev pub NearbyAngles : Type 0
NearbyAngles = (t t' : ℤ) → Size (angle_of (pos 60000000)) t → Size (angle_of (pos 60000000)) t' → Size (pos 19) (t' -ℤ t) →
    Size (pos 30) (sine_of t' -ℤ sine_of t) × Size (pos 26) (cosine_of t' -ℤ cosine_of t)

-- the root from below (Roots)
abbrev pub IsRootBelow : Type 0
IsRootBelow = (q : ℕ) → q ≤ root_limit →
    (root_below q * root_below q ≤ q) × (q < (root_below q + 1) * (root_below q + 1))

-- root(q) is the whole number between its two squares, and there is no other (Roots)
abbrev pub IsRoot : Type 0
IsRoot = (q : ℕ) → 1 ≤ q → q ≤ root_limit →
    Root (pos q) (pos (root_of q)) × ((r : ℤ) → Root (pos q) r → r ≡ pos (root_of q))
