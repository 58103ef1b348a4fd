-- `test_interface::melgoweth_test_step` meets its contract. Assumes nothing.
use mathlib.Core.Path.{ap, ◌∙◌}
use Rattle.sheet.specs.declared.Sheet.{Sheet}
use Rattle.atlas_file.specs.Steps.{step_reply}
use Rattle.test_interface.specs.Stored.{state_with, step_out_of}
use Rattle.test_interface.proofs.Bits.{passed}
use Rattle.test_interface.proofs.melgoweth_test_step.Goals as goal

pub returns : goal.returns
returns c =
    let a = c.args in
    let f = c.ranges in
    c.store_step.ensures
    ∙ ap step_out_of c.step-answer.ensures
    ∙ ap (λ (h : Sheet). step_out_of (step_reply a.bytes.now (state_with a.at a.sheet_read h a.count a.last_id a.room))) (passed c.sheet_of.ensures f.f1 f.f2 f.f0 f.m0 f.fs f.fn_ f.g)
