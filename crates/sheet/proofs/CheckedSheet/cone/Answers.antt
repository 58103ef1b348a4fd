-- `sheet::CheckedSheet::cone` meets its contract. Assumes nothing.
use Rattle.arith.proofs.Parts.{linear}
use Rattle.sheet.proofs.Limits.{limits_hold, passes_limits}
use Rattle.sheet.proofs.CheckedSheet.cone.Goals as goal

pub invariant_of-result : goal.invariant_of-result
invariant_of-result c =
    let s = c.args.self in
    let l = limits_hold s.sheet (passes_limits s.sheet s.passes) in
    record { n_bound = omega (linear, l.n_most); w_bound = omega (linear, l.w_most) }
