-- `sheet::cone_agrees` meets its contract. Assumes nothing.
use mathlib.Core.Path.{ap, ◌∙◌}
use lib.IntN.{◌-ℤ◌}
use mir.Syntax.{w64}
use mir.Val.{to_z, of_z}
use mir.Facts.{to_z-of_z}
use Rattle.arith.specs.Bounds.{size_up_to}
use Rattle.arith.proofs.Fits.{Range, fits, plain, inside_of, within, nat_bits, back, r_bits, r_sub, bounded}
use Rattle.sheet.specs.Sheets.{cone_agrees}
use Rattle.sheet.proofs.Angles.{parallel_angle_size, sine-range, cosine-range, cone_range}
use Rattle.sheet.proofs.cone_agrees.Goals as goal
use Rattle.sheet.proofs.cone_agrees.Goals.{After-cone_angle_unchecked, After-cosine_at-then-f1-f2, After-sine-sine}

abbrev first : (c : After-cosine_at-then-f1-f2) → Range c.before.cosine_at.result
first c = let s = c.before.before.before in cosine-range {f = s.args.f1} (rw (to_z-of_z s.ranges.f1) at c.before.cosine_at.ensures) s.requires.size

abbrev second : (c : After-cosine_at-then-f1-f2) → Range c.cosine_at-then-f1-f2.result
second c = let s = c.before.before.before in cosine-range {f = s.args.f2} (rw (to_z-of_z s.ranges.f2) at c.cosine_at-then-f1-f2.ensures) s.requires.size_2

abbrev fall : (c : After-cosine_at-then-f1-f2) → Range (to_z w64 (of_z w64 c.before.cosine_at.result) -ℤ to_z w64 (of_z w64 c.cosine_at-then-f1-f2.result))
fall c = r_sub (r_bits w64 (first c)) (r_bits w64 (second c))

abbrev apart : (c : After-cosine_at-then-f1-f2) →
    let s = c.before.before.before in Range (to_z w64 (of_z w64 s.args.f2) -ℤ to_z w64 (of_z w64 s.args.f1))
apart c = let s = c.before.before.before in r_sub (bounded w64 s.requires.size_2) (bounded w64 s.requires.size)

abbrev turned : (c : After-cone_angle_unchecked) → Range c.cone_angle_unchecked.result
turned c =
    let s = c.before.before.before.before in
    cone_range {a = s.args.f2 -ℤ s.args.f1} (rw (plain (r_bits w64 (apart c.before)) tt) at c.cone_angle_unchecked.ensures) s.requires.n_bound
    (inside_of (r_sub (within s.requires.size_2) (within s.requires.size)) tt)

abbrev sine : (c : After-sine-sine) → Range c.sine-sine.result
sine c =
    let t = c.angle_unchecked-t in
    let angled = rw (to_z-of_z c.ranges.f1) at t.ensures in
    sine-range {f = c.args.f1} (rw (back w64 t.result t.type_inv, angled) at c.sine-sine.ensures) c.requires.size

pub overflow_sub-fall : goal.overflow_sub-fall
overflow_sub-fall c = fits (fall c) tt

-- f2 - f1, as the code has it

pub overflow_sub-cone_angle_unchecked : goal.overflow_sub-cone_angle_unchecked
overflow_sub-cone_angle_unchecked c = fits (r_sub (r_bits w64 (turned c)) (r_bits w64 (fall c.before))) tt

pub invariant_of-sine : goal.invariant_of-sine
invariant_of-sine c =
    let t = c.angle_unchecked-t in
    let angled = rw (to_z-of_z c.ranges.f1) at t.ensures in
    rw (back w64 t.result t.type_inv, angled) (record { in_range = parallel_angle_size c.args.f1 c.requires.size })

pub overflow_sub-n : goal.overflow_sub-n
overflow_sub-n c = fits (r_sub (nat_bits w64 c.before.before.before.requires.n_bound) (r_bits w64 (sine c))) tt

pub returns-then-f1-f2 : goal.returns-then-f1-f2
unfolding cone_agrees
returns-then-f1-f2 c =
    let s = c.before.before.before.before.before in
    let below = rw (to_z-of_z s.ranges.f1, to_z-of_z s.ranges.f2) at c.before.before.before.before.if-f1-f2.true in
    rw below (c.size_up_to.ensures ∙ ap (size_up_to 32) (plain (r_bits w64 (r_sub (r_bits w64 (turned c.before)) (r_bits w64 (fall c.before.before)))) tt))

pub returns-else-f1-f2 : goal.returns-else-f1-f2
unfolding cone_agrees
returns-else-f1-f2 c =
    let s = c.before.before.before.before in
    let equal = rw (to_z-of_z s.ranges.f1, to_z-of_z s.ranges.f2) at c.before.before.before.if-f1-f2.false in
    rw equal (c.size_up_to-else-f1-f2.ensures ∙ ap (size_up_to 32) (plain (r_bits w64 (r_sub (nat_bits w64 s.requires.n_bound) (r_bits w64 (sine c.before)))) tt))
