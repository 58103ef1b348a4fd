-- `sheet::radius_agrees` meets its contract. Assumes nothing.
use mathlib.Core.Path.{ap, ◌∙◌}
use mir.Syntax.{w64}
use mir.Facts.{to_z-of_z}
use Rattle.arith.specs.Bounds.{size_up_to}
use Rattle.arith.proofs.Fits.{Range, fits, plain, r_bits, r_sub}
use Rattle.sheet.specs.Sheets.{radius_agrees}
use Rattle.sheet.proofs.Angles.{cosine-range, cone_range}
use Rattle.sheet.proofs.radius_agrees.Goals as goal
use Rattle.sheet.proofs.radius_agrees.Goals.{After-cosine_at}

abbrev turned : (c : After-cosine_at) → Range c.before.cone_angle_unchecked.result
turned c =
    let s = c.before.before in
    cone_range {a = s.args.r1} (rw (to_z-of_z s.ranges.r1) at c.before.cone_angle_unchecked.ensures) s.requires.n_bound s.requires.size_2

abbrev cosine : (c : After-cosine_at) → Range c.cosine_at.result
cosine c =
    let s = c.before.before in
    cosine-range {f = s.args.f1} (rw (to_z-of_z s.ranges.f1) at c.cosine_at.ensures) s.requires.size

pub overflow_sub-cone_angle_unchecked : goal.overflow_sub-cone_angle_unchecked
overflow_sub-cone_angle_unchecked c = fits (r_sub (r_bits w64 (turned c)) (r_bits w64 (cosine c))) tt

pub returns : goal.returns
unfolding radius_agrees
returns c =
    c.size_up_to.ensures ∙ ap (size_up_to 32) (plain (r_bits w64 (r_sub (r_bits w64 (turned c.before)) (r_bits w64 (cosine c.before)))) tt)
