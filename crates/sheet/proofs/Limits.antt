-- The limits of a sheet as orders, and back; a sheet that passes its checks is within them. Assumes nothing.
use mathlib.Mathlib.Data.Bool.Basic.{and_intro}
use Rattle.arith.proofs.Parts.{linear, sub_parts}
use Rattle.arith.proofs.Order.{true_le, true_lt}
use Rattle.arith.proofs.Tests.{said, facts}
use Rattle.refusal.proofs.InOrder.{each_holds}
use Rattle.sheet.specs.Sheets.{fs, fn, g, within_limits, sheet_rules}
use Rattle.sheet.specs.Laws.{LimitsHold, HoldsLimits, PassesLimits, RadiusSize}

pub limits_hold : LimitsHold
unfolding within_limits
limits_hold s e = let t = facts e (search said depth 9) in omega linear

pub holds-limits : HoldsLimits
unfolding within_limits
holds-limits s h = search (and_intro, true_le, true_lt) depth 30

pub passes_limits : PassesLimits
unfolding sheet_rules
passes_limits s e = (each_holds (sheet_rules s) e).0

pub radius_size : RadiusSize
radius_size s f l h = omega (linear, sub_parts (g s) f, sub_parts (g s) (fs s), sub_parts (g s) (fn s))
