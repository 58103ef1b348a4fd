-- `trig::is_root` meets its contract: s is the root where -s < q - s² ≤ s. Assumes nothing.
use lib.IntN.{pos, ◌-ℤ◌, ◌*ℤ◌}
use mir.Syntax.{w64}
use mir.Val.{to_z, of_z}
use Rattle.arith.proofs.Tests.{facts, said}
use Rattle.arith.proofs.Fits.{Range, plain, bounded, lit, r_bits, r_sub, r_mul}
use Rattle.trig.proofs.Roots.{root_by_off}
use Rattle.trig.proofs.is_root.Goals as goal

pub returns : goal.returns
returns c h =
    let s = bounded w64 c.requires.s in
    let off = r_sub (bounded w64 c.requires.q) (r_bits w64 (r_mul s s)) in
    let minus = r_sub (lit (pos 0)) s in
    let f = rw (plain (r_bits w64 minus) tt, plain (r_bits w64 off) tt, plain s tt) at (facts h (search said depth 9)) in
    root_by_off c.args.q c.args.s c.requires.q f.0 f.1
