-- West and east mirror: angle and sine are odd, cosine is even, since quotients drop toward zero. The angle's factor. Assumes nothing.
use mathlib.Core.Path.{◌≡◌, refl, ap, ◌∙◌}
use lib.IntN.{ℤ, pos, neg_ℤ, ◌*ℤ◌}
use lib.Signed.{quot_z}
use Rattle.arith.proofs.Laws.{negℤ-*ℤ, negℤ-*ℤ-negℤ}
use Rattle.arith.proofs.Quot.{quot-neg}
use Rattle.trig.specs.Trig.{ONE, angle_factor, angle_of, sine_row, cosine_row, square_of, series_of, sine_of, cosine_of}
use Rattle.trig.specs.Laws.{AngleFactor, AngleOdd, SineOdd, CosineEven}

pub angle_factor_lem : AngleFactor
angle_factor_lem = refl

-- the quotient a × b / ONE of -a
product_odd : (a b : ℤ) → quot_z (neg_ℤ a *ℤ b) ONE ≡ neg_ℤ (quot_z (a *ℤ b) ONE)
product_odd a b = ap (λ z. quot_z z ONE) (negℤ-*ℤ a b) ∙ quot-neg (a *ℤ b) 1073741824

square_even : (t : ℤ) → square_of (neg_ℤ t) ≡ square_of t
unfolding square_of
square_even t = ap (λ z. quot_z z ONE) (negℤ-*ℤ-negℤ t t)

pub angle_odd : AngleOdd
unfolding angle_of
angle_odd a = product_odd a (pos angle_factor)

pub sine-odd : SineOdd
unfolding sine_of
sine-odd t = ap (λ z. quot_z (neg_ℤ t *ℤ series_of sine_row z) ONE) (square_even t) ∙ product_odd t (series_of sine_row (square_of t))

pub cosine-even : CosineEven
unfolding cosine_of
cosine-even t = ap (series_of cosine_row) (square_even t)
