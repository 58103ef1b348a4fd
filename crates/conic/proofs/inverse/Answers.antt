-- `conic::inverse` meets its contract. Assumes nothing.
use mathlib.Core.List.{[]}
use Rattle.std.proofs.lemmas.Result.{err_from_is_err_and}
use Rattle.refusal.proofs.InOrder.{refused-first}
use Rattle.sheet.specs.Sheets.{sheet_rules}
use Rattle.conic.specs.MapToGlobe.{point_rules}
use Rattle.conic.proofs.inverse.Goals as goal

pub returns-in_err-new : goal.returns-in_err-new
returns-in_err-new c =
    let s = c.args in
    let p = err_from_is_err_and c.from_residual.result c.from_residual.ensures.1 in
    rw (p.1, p.2) (refused-first 0 2 (sheet_rules s.sheet) (point_rules s.sheet s.x s.y) [] _ _ c.in_err-new.ensures.reply)
