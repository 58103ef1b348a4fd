-- `cone::ConePoint::is_not_right_unchecked` meets its contract. Assumes nothing.
use mir.Syntax.{w64}
use Rattle.arith.proofs.Fits.{plain, bounded, r_bits, r_mul}
use Rattle.cone.proofs.ConePoint.is_not_right_unchecked.Goals as goal

pub returns : goal.returns
returns c =
    let p = c.args.self in
    let r = c.requires in
    rw (plain (r_bits w64 (r_mul (bounded w64 p.x_range) (bounded w64 r.size_2))) tt, plain (r_bits w64 (r_mul (bounded w64 p.v_range) (bounded w64 r.size))) tt)
