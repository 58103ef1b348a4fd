-- `nearest::Tap::best_of` meets its contract. Assumes nothing.
use mathlib.Core.Bool.{true, false}
use mathlib.Core.Path.{sym, ◌∙◌}
use native.Mathlib.Omega.{arith}
use Rattle.nearest.proofs.Turns.{best_after, fold_more, fold_done}
use Rattle.nearest.proofs.Tap.best_of.Goals as goal
use Rattle.nearest.proofs.Tap.best_of.Goals.{then-is_better, else-is_better}

pub loop-position-preserved : goal.loop-position-preserved
loop-position-preserved c =
    let l = c.loop-position in
    let e = c.candidate-candidate.ensures in
    let i = c.is_better.ensures in
    elim c.if-is_better.branch [
      | then-is_better w ↦ fold_more _ _ _ _ _ _ _ _ _ _ (omega arith) c.place_at_unchecked-place.ensures (best_after _ _ _ l.best c.if-is_better.best _ l.position _ true e (sym w.if-is_better.true ∙ i) w.best-is) l.invariant
      | else-is_better w ↦ fold_more _ _ _ _ _ _ _ _ _ _ (omega arith) c.place_at_unchecked-place.ensures (best_after _ _ _ l.best c.if-is_better.best _ l.position _ false e (sym w.if-is_better.false ∙ i) w.best-is) l.invariant
    ]

pub returns : goal.returns
returns c = fold_done _ _ _ _ _ _ _ (omega arith) (omega arith) c.loop-position.invariant
