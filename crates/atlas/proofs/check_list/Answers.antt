-- `atlas::check_list` meets its contract: the sheet's rules, then that on the number of places, then theirs. Assumes nothing.
use mathlib.Core.List.{[]}
use borrow.Author.Tests.{le-leb, lt-leb}
use Rattle.std.proofs.lemmas.Result.{err_from_is_err_and}
use Rattle.refusal.specs.Numbers.{accepted}
use Rattle.refusal.proofs.InOrder.{accepted-all_hold, others_decide, refused-first}
use Rattle.sheet.specs.Sheets.{sheet_rules}
use Rattle.atlas_file.specs.Steps.{most_places}
use Rattle.atlas_file.specs.Writing.{list_rules}
use Rattle.atlas.proofs.check_list.Goals as goal

pub returns-in_err-checked : goal.returns-in_err-checked
unfolding list_rules
returns-in_err-checked c =
    let p = err_from_is_err_and c.from_residual.result c.from_residual.ensures.1 in
    rw (p.1, p.2) (refused-first 0 0 (sheet_rules c.args.sheet) _ [] (accepted []) _ c.in_err-checked.ensures.reply)

pub returns-then-table-gt-MOST_PLACES : goal.returns-then-table-gt-MOST_PLACES
unfolding list_rules
returns-then-table-gt-MOST_PLACES c =
    let passed = accepted-all_hold 0 (sheet_rules c.args.sheet) [] [] c.in_ok-checked.ensures.reply in
    rw (others_decide 0 (sheet_rules c.args.sheet) _ (accepted []) passed, lt-leb _ most_places c.if-table-gt-MOST_PLACES.true)

pub returns : goal.returns
unfolding list_rules
returns c =
    let passed = accepted-all_hold 0 (sheet_rules c.args.sheet) [] [] c.in_ok-checked.ensures.reply in
    rw (others_decide 0 (sheet_rules c.args.sheet) _ (accepted []) passed, le-leb _ most_places c.if-table-gt-MOST_PLACES.false, ← c.in_ok-checked.ensures.sheet) c.check_places.ensures
