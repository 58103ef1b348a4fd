-- `sheet::within_limits` meets its contract. Assumes nothing.
use mir.Syntax.{w64}
use mir.Facts.{to_z-of_z}
use Rattle.arith.proofs.Fits.{plain, unsigned, r_bits, r_sub}
use Rattle.sheet.specs.Sheets.{within_limits}
use Rattle.sheet.proofs.Fields.{Typed, typed, wide}
use Rattle.sheet.proofs.within_limits.Goals as goal
use Rattle.sheet.proofs.within_limits.Goals.{After-struct_told-7-1}

told : (c : After-struct_told-7-1) → Typed c.before.before.before.before.before.before.before.before.before.args.sheet
told c = typed c.struct_told-7-1.given

pub returns : goal.returns
unfolding within_limits
returns c =
    let t = told c in
    rw (
      plain (unsigned w64 t.n) tt,
      plain (r_bits w64 (r_sub (wide t.g) (wide t.fn))) tt,
      plain (r_bits w64 (r_sub (wide t.g) (wide t.fs))) tt,
      to_z-of_z t.f1,
      to_z-of_z t.f2,
      to_z-of_z t.f0,
      to_z-of_z t.m0,
      to_z-of_z t.fs,
      to_z-of_z t.fn,
    )
