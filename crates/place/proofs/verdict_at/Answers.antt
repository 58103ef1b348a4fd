-- `place::verdict_at` meets its contract. Assumes nothing.
use mathlib.Core.Path.{sym, ◌∙◌}
use Rattle.refusal.proofs.Distinct.{not_zero}
use Rattle.place.specs.Places.{place_rules_at}
use Rattle.place.proofs.verdict_at.Goals as goal

pub returns-then-not-count-last_id : goal.returns-then-not-count-last_id
unfolding place_rules_at
returns-then-not-count-last_id c = rw c.if-not-count-last_id.true

pub returns-in_default : goal.returns-in_default
unfolding place_rules_at
returns-in_default c = rw (c.in_default.is, c.if-not-count-last_id.false, not_zero c.in_default.field-0)

pub returns-then-not-is_at : goal.returns-then-not-is_at
unfolding place_rules_at
returns-then-not-is_at c = rw (c.in-Ok.is, c.if-not-count-last_id.false, sym c.is_at.ensures ∙ c.if-not-is_at.true)

pub returns-then-not-is_name : goal.returns-then-not-is_name
unfolding place_rules_at
returns-then-not-is_name c = rw (c.in-Ok.is, c.if-not-count-last_id.false, sym c.is_at.ensures ∙ c.if-not-is_at.false, sym c.is_name.ensures ∙ c.if-not-is_name.true)

pub returns : goal.returns
unfolding place_rules_at
returns c = rw (c.in-Ok.is, c.if-not-count-last_id.false, sym c.is_at.ensures ∙ c.if-not-is_at.false, sym c.is_name.ensures ∙ c.if-not-is_name.false)
