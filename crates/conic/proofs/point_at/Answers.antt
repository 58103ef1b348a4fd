-- `conic::point_at` meets its contract. Assumes nothing.
use mir.Facts.{to_z-of_z}
use Rattle.arith.proofs.Fits.{Range, shapes, fits, plain, within, via}
use Rattle.trig.proofs.Sizes.{sine-within, cosine-size}
use Rattle.conic.specs.Conic.{x_at, y_at}
use Rattle.conic.proofs.point_at.Goals as goal
use Rattle.conic.proofs.point_at.Goals.{After-sine_cosine-at}

abbrev sine : (c : After-sine_cosine-at) → Range c.sine_cosine-at.result.sine
sine c = let s = c.before in via (rw (to_z-of_z s.ranges.t) at c.sine_cosine-at.ensures.sine_value) (within (sine-within s.args.t s.requires.size_3))

abbrev cosine : (c : After-sine_cosine-at) → Range c.sine_cosine-at.result.cosine
cosine c = let s = c.before in via (rw (to_z-of_z s.ranges.t) at c.sine_cosine-at.ensures.cosine_value) (within (cosine-size s.args.t s.requires.size_3))

abbrev radius : (c : After-sine_cosine-at) → Range c.args.r
radius c = within c.requires.size_2

pub overflow_mul-result : goal.overflow_mul-result
overflow_mul-result c =
    let r = radius (goal.at.overflow_mul-result c).After-sine_cosine-at in
    let a = sine (goal.at.overflow_mul-result c).After-sine_cosine-at in
    fits (search shapes depth 9) tt

pub overflow_mul-result-2 : goal.overflow_mul-result-2
overflow_mul-result-2 c =
    let r = radius (goal.at.overflow_mul-result-2 c).After-sine_cosine-at in
    let a = cosine (goal.at.overflow_mul-result-2 c).After-sine_cosine-at in
    fits (search shapes depth 9) tt

pub returns : goal.returns
unfolding x_at y_at
returns c =
    let k = (goal.at.returns c).After-sine_cosine-at in
    let r = radius k in
    let a = sine k in
    let b = cosine k in
    let o = within k.requires.size in
    record { x_value = plain (search shapes depth 12) tt; y_value = plain (search shapes depth 12) tt }
