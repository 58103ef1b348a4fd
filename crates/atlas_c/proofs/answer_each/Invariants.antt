-- The answers to the first k pairs are set, and the rest is as it was.
use Rattle.atlas_c.proofs.Answers.{Filled}
use Rattle.atlas_c.proofs.answer_each.Given as goal

abbrev pub invariant-loop-k : goal.invariant-loop-k
invariant-loop-k g l = Filled (g.P.Projection.reply l.projection) l.pairs l.initial.answers l.k l.answers
