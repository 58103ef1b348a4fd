-- `atlas_file::sheet_step` meets its contract. Assumes nothing.
use Rattle.refusal.proofs.InOrder.{all_hold-good}
use Rattle.sheet.specs.Sheets.{sheet_rules}
use Rattle.std.proofs.lemmas.Result.{err_from_is_err_and}
use Rattle.atlas_file.specs.Steps.{sheet_step}
use Rattle.atlas_file.proofs.ByVerdict.{here-good, here-bad}
use Rattle.atlas_file.proofs.sheet_step.Goals as goal

pub returns-in_err-here : goal.returns-in_err-here
unfolding sheet_step
returns-in_err-here c =
    let p = err_from_is_err_and c.from_residual.result c.from_residual.ensures.1 in
    rw (p.1, p.2, ← c.decode_sheet_unchecked-sheet.ensures) (here-bad (sheet_rules _) c.args.state _ c.check.ensures c.in_err-here.ensures _)

pub returns : goal.returns
unfolding sheet_step
returns c =
    rw (← c.decode_sheet_unchecked-sheet.ensures, all_hold-good _ (sheet_rules _) _ _ (here-good (sheet_rules _) c.args.state _ c.check.ensures c.in_ok-here.ensures), c.requires.end_value)
