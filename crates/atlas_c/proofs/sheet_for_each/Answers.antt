-- `atlas_c::sheet_for_each` meets its contract. Assumes nothing.
use borrow.Author.Tests.{eq-eqb, ne_eqb, le-leb, lt-leb}
use Rattle.atlas_c.specs.Given.{each_rules}
use Rattle.atlas_c.proofs.sheet_for_each.Goals as goal

pub returns-then-numbers-ne0 : goal.returns-then-numbers-ne0
unfolding each_rules
returns-then-numbers-ne0 c = rw (← c.in_ok-checked.ensures, ne_eqb _ _ c.if-numbers-ne0.true)

pub returns-then-room-numbers : goal.returns-then-room-numbers
unfolding each_rules
returns-then-room-numbers c = rw (← c.in_ok-checked.ensures, eq-eqb _ _ c.if-numbers-ne0.false, lt-leb _ _ c.if-room-numbers.true)

pub returns : goal.returns
unfolding each_rules
returns c = rw (← c.in_ok-checked.ensures, eq-eqb _ _ c.if-numbers-ne0.false, le-leb _ _ c.if-room-numbers.false)
