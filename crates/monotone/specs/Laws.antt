-- Where the computed sine rises and the computed cosine falls. Each is proved in proofs/Monotone.
use Rattle.std.specs.Prelude.{◌⊎◌, ℤ, pos, ◌+ℤ◌, ◌-ℤ◌, ◌*ℤ◌, ◌≤ℤ◌, ◌<ℤ◌}
use Rattle.trig.specs.Trig.{ONE, angle_of, square_of, sine_of, cosine_of}

-- from t up to t': at least 4 further and up to angle(60,000,000), or anywhere up to a quarter of that
abbrev pub Further : (t t' : ℤ) → Type 0
Further t t' = (((t +ℤ pos 4) ≤ℤ t') × (t' ≤ℤ angle_of (pos 60000000))) ⊎ ((t ≤ℤ t') × (t' ≤ℤ pos 281104952))

-- there the sine does not fall and the cosine does not rise
abbrev pub SineRises : Type 0
SineRises = (t t' : ℤ) → pos 0 ≤ℤ t → Further t t' → sine_of t ≤ℤ sine_of t'

abbrev pub CosineFalls : Type 0
CosineFalls = (t t' : ℤ) → pos 0 ≤ℤ t → Further t t' → cosine_of t' ≤ℤ cosine_of t

-- for a single step it is not so: here the sine of t + 1 is less than that of t
abbrev pub StepFalls : Type 0
StepFalls = sine_of (pos 941461031) <ℤ sine_of (pos 941461030)

-- the sine rises by k at least from t up to t', a or more further and up to T, where 2 k ONE ≤ a (2 ONE - z - 1) - 3 T with z the square of T
abbrev pub SineRisesBy : Type 0
SineRisesBy = (T a k t t' : ℤ) → pos 0 ≤ℤ t → pos 0 ≤ℤ a → (t +ℤ a) ≤ℤ t' → t' ≤ℤ T → T ≤ℤ angle_of (pos 60000000) →
    (pos 2 *ℤ k *ℤ ONE) ≤ℤ (a *ℤ (pos 2 *ℤ ONE -ℤ square_of T -ℤ pos 1) -ℤ pos 3 *ℤ T) → (sine_of t +ℤ k) ≤ℤ sine_of t'
