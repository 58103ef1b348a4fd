-- `cone::Cone::east_of` meets its contract. Assumes nothing.
use mathlib.Core.Path.{◌≡◌, ap}
use lib.IntN.{ℤ, pos, ◌*ℤ◌}
use mir.Syntax.{w64}
use mir.Val.{to_z, of_z}
use mir.Facts.{to_z-of_z}
use Rattle.arith.specs.Bounds.{Size}
use Rattle.arith.proofs.Parts.{linear}
use Rattle.arith.proofs.Fits.{Range, fits, plain, bounded, within, via, r_bits, r_sub, r_mul}
use Rattle.trig.specs.Trig.{ONE}
use Rattle.cone.specs.Cone.{sine_cosine_at}
use Rattle.cone.proofs.Sizes.{sine_at-size, cosine_at-size}
use Rattle.cone.proofs.Cone.east_of.Goals as goal
use Rattle.cone.proofs.Cone.east_of.Goals.{After-sine_cosine_unchecked-at}

module _ (c : After-sine_cosine_unchecked-at) where
  abbrev n : ℤ
  n = pos c.args.self.constant

  n_size : Size ONE n
  n_size = let h = c.args.self.n_bound in omega linear

  at-is : c.sine_cosine_unchecked-at.result ≡ sine_cosine_at n c.args.d
  at-is = rw (to_z-of_z c.ranges.d) at c.sine_cosine_unchecked-at.ensures

  abbrev over : Range (to_z w64 (of_z w64 c.args.point.x) *ℤ to_z w64 (of_z w64 c.sine_cosine_unchecked-at.result.cosine))
  over = r_mul (bounded w64 c.args.point.x_range) (r_bits w64 (via (ap (λ a. a.cosine) at-is) (within (cosine_at-size n c.args.d n_size c.requires))))

  abbrev down : Range (to_z w64 (of_z w64 c.args.point.v) *ℤ to_z w64 (of_z w64 c.sine_cosine_unchecked-at.result.sine))
  down = r_mul (bounded w64 c.args.point.v_range) (r_bits w64 (via (ap (λ a. a.sine) at-is) (within (sine_at-size n c.args.d n_size c.requires))))

pub overflow_mul-result : goal.overflow_mul-result
overflow_mul-result c = fits (over (goal.at.overflow_mul-result c).After-sine_cosine_unchecked-at) tt

pub overflow_mul-result-2 : goal.overflow_mul-result-2
overflow_mul-result-2 c = fits (down (goal.at.overflow_mul-result-2 c).After-sine_cosine_unchecked-at) tt

pub overflow_sub-result : goal.overflow_sub-result
overflow_sub-result c = let k = (goal.at.overflow_sub-result c).After-sine_cosine_unchecked-at in fits (r_sub (r_bits w64 (over k)) (r_bits w64 (down k))) tt

pub returns : goal.returns
returns c = let k = (goal.at.returns c).After-sine_cosine_unchecked-at in plain (r_bits w64 (r_sub (r_bits w64 (over k)) (r_bits w64 (down k)))) tt
