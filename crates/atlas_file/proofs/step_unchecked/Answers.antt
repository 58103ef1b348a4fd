-- `atlas_file::step_unchecked` meets its contract. Assumes nothing.
use mathlib.Core.Path.{sym, ap, ◌∙◌}
use borrow.Author.Tests.{lt-ltb, le-ltb}
use Rattle.std.specs.Prelude.{Err}
use Rattle.records.proofs.Answers.{distinct_layout_replies}
use Rattle.std.proofs.lemmas.Result.{err_from_is_err_and}
use Rattle.atlas_file.specs.Steps.{step_of}
use Rattle.atlas_file.proofs.ByVerdict.{here-ok, here-err}
use Rattle.atlas_file.proofs.step_unchecked.Goals as goal

pub returns-then-bytes-state : goal.returns-then-bytes-state
unfolding step_of
returns-then-bytes-state c = rw (le-ltb _ _ c.if-bytes-state.true) c.here.ensures

pub returns-in_err-record : goal.returns-in_err-record
unfolding step_of
returns-in_err-record c =
    let p = err_from_is_err_and c.from_residual.result c.from_residual.ensures.1 in
    let r = here-err c.args.state _ c.in_err-record.ensures in
    let kind = sym (distinct_layout_replies _ _ c.try_from.ensures) ∙ r.1 in
    rw (p.1, p.2, lt-ltb _ _ c.if-bytes-state.false, kind) (ap Err r.2)

pub returns : goal.returns
unfolding step_of
returns c =
    let kind = sym (distinct_layout_replies _ _ c.try_from.ensures) ∙ here-ok c.args.state _ c.in_ok-record.ensures in
    rw (lt-ltb _ _ c.if-bytes-state.false, kind) c.record_step.ensures
