-- `cone::cut` meets its contract: what it cuts at is tested to lie between lo and hi, or is the middle. Assumes nothing.
use lib.IntN.{ℤ, pos, ◌+ℤ◌, ◌-ℤ◌}
use lib.Signed.{◌<ℤ◌, quot_z}
use mir.Syntax.{w64}
use mir.Val.{to_z, of_z}
use mir.Facts.{to_z-of_z}
use Rattle.arith.proofs.Tests.{facts, said}
use Rattle.arith.proofs.Fits.{Range, ranges, by_plain}
use Rattle.cone.proofs.Halving.{middle-between}
use Rattle.cone.proofs.cut.Goals as goal

abbrev bits : ℤ → ℤ
bits z = to_z w64 (of_z w64 z)

pub returns-then-lo-next : goal.returns-then-lo-next
returns-then-lo-next c =
    let s = c.before.before in
    let f : (s.args.lo <ℤ to_z w64 c.if-near-lo.next-bits) × (to_z w64 c.if-near-lo.next-bits <ℤ s.args.hi) = rw (to_z-of_z s.ranges.lo, to_z-of_z s.ranges.hi) at (facts c.if-lo-next.true (search said depth 9)) in
    record { lower_bound = f.0; upper_bound = f.1 }

pub returns-else-lo-next : goal.returns-else-lo-next
returns-else-lo-next c =
    let s = c.before.before in
    let lo = bits s.args.lo in
    let hi = bits s.args.hi in
    let mid : Range (bits (lo +ℤ bits (quot_z (bits (hi -ℤ lo)) (pos 2)))) = search ranges depth 20 in
    let f = by_plain (λ z. (s.args.lo <ℤ z) × (z <ℤ s.args.hi)) mid tt (middle-between s.args.lo s.args.hi s.requires.pos_bound) in
    record { lower_bound = f.0; upper_bound = f.1 }
