-- `sheet::constants_agree` meets its contract. Assumes nothing.
use lib.IntN.{pos}
use mir.Syntax.{w64}
use Rattle.arith.specs.Bounds.{Within, Size}
use Rattle.arith.proofs.Parts.{linear}
use Rattle.arith.proofs.Fits.{plain, r_bits, r_sub}
use Rattle.sheet.specs.declared.Sheet.{Sheet}
use Rattle.sheet.specs.Sheets.{f1, f2, fs, fn, constants_agree}
use Rattle.sheet.specs.Laws.{InLimits}
use Rattle.sheet.proofs.Limits.{limits_hold, radius_size}
use Rattle.sheet.proofs.Fields.{Typed, typed, wide}
use Rattle.sheet.proofs.constants_agree.Goals as goal
use Rattle.sheet.proofs.constants_agree.Goals.{After-struct_told-3-1}

told : (c : After-struct_told-3-1) → Typed c.before.before.before.before.before.before.args.sheet
told c = typed c.struct_told-3-1.given

module _ (s : Sheet) (l : InLimits s) where
  first-size : Size (pos 80000000) (f1 s)
  first-size = omega linear

  second-size : Size (pos 80000000) (f2 s)
  second-size = omega linear

  first-between : Within (fs s) (fn s) (f1 s)
  first-between = omega linear

limits : (c : After-struct_told-3-1) → InLimits c.before.before.before.before.before.before.args.sheet
limits c = let s = c.before.before.before.before.before.before in limits_hold s.args.sheet s.requires

pub cone_agrees-requires : goal.cone_agrees-requires
cone_agrees-requires c =
    let s = c.before.before.before.before.before.before.args.sheet in
    let t = told c in
    let l = limits c in
    record { n_bound = omega (linear, l.n_most); size = rw (plain (wide t.f1) tt) (first-size s l); size_2 = rw (plain (wide t.f2) tt) (second-size s l) }

pub radius_agrees-requires : goal.radius_agrees-requires
radius_agrees-requires c =
    let s = c.before.before.before.before.before.before.before.args.sheet in
    let t = told c.before in
    let l = limits c.before in
    record { n_bound = omega (linear, l.n_most); size = rw (plain (wide t.f1) tt) (first-size s l); size_2 = rw (plain (r_bits w64 (r_sub (wide t.g) (wide t.f1))) tt) (radius_size s (f1 s) l (first-between s l)) }

pub returns : goal.returns
unfolding constants_agree
returns c =
    let t = told c.before.before in
    let r = plain (r_bits w64 (r_sub (wide t.g) (wide t.f1))) tt in
    rw (c.before.cone_agrees.ensures, c.radius_agrees.ensures, r, plain (wide t.f1) tt, plain (wide t.f2) tt)
