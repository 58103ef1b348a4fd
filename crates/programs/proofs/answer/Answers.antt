-- `programs::answer` meets its contract. Assumes nothing.
use borrow.Author.Rules.{rules}
use Rattle.refusal.proofs.Distinct.{not_zero}
use Rattle.programs.specs.Tapping.{answer_to}
use Rattle.programs.proofs.answer.Goals as goal

pub returns-in-Ok : goal.returns-in-Ok
unfolding answer_to
returns-in-Ok c = rw (← c.in-Ok.ensures) (search rules)

pub returns-in-Err : goal.returns-in-Err
unfolding answer_to
returns-in-Err c = rw (← c.in-Err.ensures, not_zero c.in-Err.refusal) c.refused_line.ensures
