-- Two answers to a check never share a number; `Ok` is that of a sheet that passes its checks, and the others are refused with 4 or with 5. Assumes nothing.
use mathlib.Core.Path.{◌≡◌, refl}
use mathlib.Core.Logic.{◌⊎◌, inl, inr}
use mathlib.Core.List.{[]}
use Rattle.arith.proofs.Choose.{choose}
use Rattle.refusal.specs.declared.Refusal.TheVariants.{SheetLimit, SheetConstants}
use Rattle.refusal.specs.Numbers.{Reply, accepted, refused}
use Rattle.refusal.specs.Rules.{in_order}
use Rattle.refusal.proofs.Distinct.{distinct_results}
use Rattle.refusal.proofs.InOrder.{accepted-all_hold, others_decide}
use Rattle.sheet.specs.Sheets.{within_limits, constants_agree, sheet_rules}
use Rattle.sheet.specs.Laws.{DistinctReplies, GoodPasses, PassesGood, ChecksFirst}

pub distinct_replies : DistinctReplies
distinct_replies a b e = distinct_results 0 _ (λ _ _ _. refl) a b e

pub good-passes : GoodPasses
good-passes s e = accepted-all_hold 0 (sheet_rules s) [] [] e

pub passes_good : PassesGood
unfolding sheet_rules
passes_good s p = others_decide 0 (sheet_rules s) [] (accepted []) p

pub checks_first : ChecksFirst
unfolding sheet_rules
checks_first s k others reply =
    let One-of : Reply → Type 0 = λ a. (a ≡ refused k SheetLimit) ⊎ (a ≡ refused k SheetConstants) ⊎ (a ≡ in_order k others reply) in
    choose One-of (within_limits s) _ _ (λ _. choose One-of (constants_agree s) _ _ (λ _. inr (inr refl)) (λ _. inr (inl refl))) (λ _. inl refl)
