-- `cone::Cone::least_rise` meets its contract. Assumes nothing.
use mathlib.Core.Path.{◌≡◌}
use lib.IntN.{ℤ, pos, ◌-ℤ◌, ◌*ℤ◌}
use lib.Signed.{quot_z}
use mir.Syntax.{w64}
use mir.Val.{to_z, of_z}
use Rattle.arith.specs.Bounds.{Size}
use Rattle.arith.proofs.Parts.{linear}
use Rattle.arith.proofs.Fits.{Range, shapes, fits, plain, within, via, nat_bits}
use Rattle.trig.specs.Trig.{square_of, sine_limit}
use Rattle.cone.specs.Cone.{cone_angle_of}
use Rattle.cone.specs.Settled.{least_rise}
use Rattle.cone.proofs.Sizes.{cone_angle_range}
use Rattle.cone.proofs.Cone.least_rise.Goals as goal
use Rattle.cone.proofs.Cone.least_rise.Goals.{After-cone_angle_unchecked-t}

abbrev bits : ℤ → ℤ
bits z = to_z w64 (of_z w64 z)

-- n, and the edge's angle on the cone

module _ (c : After-cone_angle_unchecked-t) where
  abbrev n : ℤ
  n = pos c.args.self.constant

  abbrev w : ℤ
  w = pos c.args.self.half_width

  t-is : c.cone_angle_unchecked-t.result ≡ cone_angle_of n w
  t-is = rw (plain (nat_bits w64 c.args.self.w_bound) tt) at c.cone_angle_unchecked-t.ensures

  t_size : Size (pos sine_limit) (cone_angle_of n w)
  t_size =
      let n_most = c.args.self.n_bound in
      let w_most = c.args.self.w_bound in
      cone_angle_range n w (omega linear) (omega linear)

  abbrev numbers : Range (to_z w64 c.args.self.constant) × Range c.cone_angle_unchecked-t.result
  numbers = (nat_bits w64 c.args.self.n_bound, via t-is (within t_size))

pub overflow_mul-z : goal.overflow_mul-z
overflow_mul-z c = let k = numbers (goal.at.overflow_mul-z c).After-cone_angle_unchecked-t in fits (search shapes depth 20) tt

pub overflow_mul-result : goal.overflow_mul-result
overflow_mul-result c = let k = numbers (goal.at.overflow_mul-result c).After-cone_angle_unchecked-t in fits (search shapes depth 20) tt

pub overflow_mul-result-2 : goal.overflow_mul-result-2
overflow_mul-result-2 c = let k = numbers (goal.at.overflow_mul-result-2 c).After-cone_angle_unchecked-t in fits (search shapes depth 20) tt

pub overflow_sub-result-3 : goal.overflow_sub-result-3
overflow_sub-result-3 c = let k = numbers (goal.at.overflow_sub-result-3 c).After-cone_angle_unchecked-t in fits (search shapes depth 20) tt

pub returns : goal.returns
unfolding least_rise square_of
returns c =
    let k = numbers (goal.at.returns c).After-cone_angle_unchecked-t in
    let t = bits c.cone_angle_unchecked-t.result in
    let z = bits (quot_z (bits (t *ℤ t)) (pos 1073741824)) in
    let further = bits (quot_z (bits (pos 18 *ℤ to_z w64 c.args.self.constant)) (pos 1073741824)) in
    let rise : Range (bits (quot_z (bits (bits (further *ℤ bits (bits (pos 2147483648 -ℤ z) -ℤ pos 1)) -ℤ bits (pos 3 *ℤ t))) (pos 2147483648))) = search shapes depth 30 in
    plain rise tt
