-- `trig::Radians::sine_by_square` meets its contract. Assumes nothing.
use mathlib.Core.Path.{◌≡◌, refl, ◌∙◌}
use mathlib.Core.List.{[]}
use mathlib.Core.Logic.{inl}
use mir.Facts.{to_z-of_z}
use Rattle.arith.proofs.Fits.{Range, shapes, fits, plain, within, via}
use Rattle.trig.specs.Trig.{sine_row, square_of, series_of, sine_of}
use Rattle.trig.proofs.Sizes.{square_size, series-size}
use Rattle.trig.proofs.Radians.sine_by_square.Goals as goal
use Rattle.trig.proofs.Radians.sine_by_square.Goals.{After-series}

summed : (c : After-series) → c.series.result ≡ series_of sine_row (square_of c.before.before.args.self.t)
summed c = c.series.ensures ∙ rw (to_z-of_z c.before.before.ranges.z, c.before.before.requires)

-- t and the row's value

abbrev factors : (c : After-series) → Range c.before.before.args.self.t × Range c.series.result
factors c =
    let s = c.before.before in
    (within s.args.self.in_range, via (summed c) (within (series-size [] sine_row (square_of s.args.self.t) (inl refl) (square_size s.args.self.t s.args.self.in_range))))

pub series-requires-clause-square : goal.series-requires-clause-square
series-requires-clause-square c = rw (to_z-of_z c.before.ranges.z, c.before.requires) (square_size c.before.args.self.t c.before.args.self.in_range)

pub overflow_mul-result : goal.overflow_mul-result
overflow_mul-result c = let f = factors (goal.at.overflow_mul-result c).After-series in fits (search shapes depth 9) tt

pub returns : goal.returns
unfolding sine_of
returns c = let f = factors (goal.at.returns c).After-series in plain (search shapes depth 9) tt
