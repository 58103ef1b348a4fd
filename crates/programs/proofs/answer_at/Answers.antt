-- `programs::answer_at` meets its contract. Assumes nothing.
use borrow.Author.Rules.{rules}
use mir.Facts.{to_z-of_z}
use Rattle.refusal.proofs.Distinct.{not_zero}
use Rattle.programs.specs.Tapping.{point_line}
use Rattle.programs.proofs.answer_at.Goals as goal

pub returns-in-Ok : goal.returns-in-Ok
unfolding point_line
returns-in-Ok c = let f = c.ranges in rw (← (rw (to_z-of_z f.x, to_z-of_z f.y) at c.in-Ok.ensures)) (search rules)

pub returns-in-Err : goal.returns-in-Err
unfolding point_line
returns-in-Err c =
    let f = c.ranges in
    rw (← (rw (to_z-of_z f.x, to_z-of_z f.y) at c.in-Err.ensures), not_zero c.in-Err.refusal) c.refused_line.ensures
