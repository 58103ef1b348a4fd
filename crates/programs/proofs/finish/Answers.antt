-- `programs::finish` meets its contract. Assumes nothing.
use borrow.Author.Tests.{eq-eqb, ne_eqb}
use Rattle.programs.specs.Tapping.{printed_at_end}
use Rattle.programs.proofs.finish.Goals as goal

pub returns-then-begun-eq0 : goal.returns-then-begun-eq0
unfolding printed_at_end
returns-then-begun-eq0 c = rw (eq-eqb c.args.begun.now.«length» 0 c.if-begun-eq0.true) c.empty.ensures

pub returns-else-begun-eq0 : goal.returns-else-begun-eq0
unfolding printed_at_end
returns-else-begun-eq0 c = rw (ne_eqb c.args.begun.now.«length» 0 c.if-begun-eq0.false) (rw c.read.ensures at c.answer.ensures)
