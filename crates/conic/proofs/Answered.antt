-- Which positions are answered, and which of the position's own refusals the others get on a sheet that passes its checks. Assumes nothing.
use mathlib.Core.Path.{◌≡◌, sym, ◌∙◌}
use mathlib.Core.Bool.{true, false}
use mathlib.Core.List.{[], ◌∷◌, ◌++◌}
use lib.IntN.{ℤ}
use Rattle.arith.proofs.Order.{true_within}
use Rattle.refusal.specs.declared.Refusal.TheVariants.{OffSheet, OutOfRange}
use Rattle.refusal.specs.Numbers.{Reply, accepted, refused}
use Rattle.refusal.specs.Rules.{in_order}
use Rattle.refusal.proofs.Distinct.{same_values}
use Rattle.refusal.proofs.InOrder.{each_holds, others_decide, accepted-all_hold, not_refused_all_hold, all_hold-good, both_hold}
use Rattle.sheet.specs.declared.Sheet.{Sheet}
use Rattle.sheet.specs.Sheets.{sheet_rules, passes_checks, on_sheet}
use Rattle.conic.specs.Conic.{x_of, y_of, in_range, position_rules, forward_reply}
use Rattle.conic.specs.Laws.{OnSheetAnswered, NotRefusedPoint, AnsweredOnSheet}
use Rattle.conic.proofs.Ranges.{latitude-size, is_on_sheet}

module _ (s : Sheet) (latitude longitude : ℤ) (p : passes_checks s ≡ true) where
  -- the position's own rules decide
  by_position : forward_reply s latitude longitude ≡ in_order 2 (position_rules s latitude longitude) (accepted (x_of s latitude longitude ∷ y_of s latitude longitude ∷ []))
  by_position = others_decide 2 (sheet_rules s) (position_rules s latitude longitude) _ p

  answered : on_sheet s latitude longitude ≡ true → forward_reply s latitude longitude ≡ accepted (x_of s latitude longitude ∷ y_of s latitude longitude ∷ [])
  unfolding position_rules
  answered o = by_position ∙ rw (true_within (latitude-size s p latitude longitude o), true_within (is_on_sheet s p latitude longitude o).longitude_range, o)

  pub refused-off_sheet : in_range latitude longitude ≡ true → on_sheet s latitude longitude ≡ false → forward_reply s latitude longitude ≡ refused 2 OffSheet
  unfolding position_rules
  refused-off_sheet i o = by_position ∙ rw (i, o)

  pub refused-out_of_range : in_range latitude longitude ≡ false → forward_reply s latitude longitude ≡ refused 2 OutOfRange
  unfolding position_rules
  refused-out_of_range i = by_position ∙ rw i

pub on_sheet-answered : OnSheetAnswered
on_sheet-answered = answered

pub not_refused_point : NotRefusedPoint
not_refused_point s latitude longitude e =
    let rules = sheet_rules s ++ position_rules s latitude longitude in
    all_hold-good Reply rules _ (refused 2) (not_refused_all_hold 2 rules _ e)

pub answered-on_sheet : AnsweredOnSheet
unfolding position_rules
answered-on_sheet s latitude longitude x y e =
    let all = accepted-all_hold 2 (sheet_rules s ++ position_rules s latitude longitude) _ _ (sym e) in
    let both = both_hold (sheet_rules s) (position_rules s latitude longitude) all in
    let o = (each_holds (position_rules s latitude longitude) both.1).1.0 in
    let k = same_values _ _ (sym e ∙ answered s latitude longitude both.0 o) in
    (both.0, o, cc, cc)
