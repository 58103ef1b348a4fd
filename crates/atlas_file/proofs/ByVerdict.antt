-- What the answer by rules tells: `Ok` that all of them hold, so that the outcome is `good`; a refusal that the outcome is `bad` of it. Assumes nothing.
use mathlib.Core.Bool.{true}
use mathlib.Core.Path.{◌≡◌, refl, sym, ap, ◌∙◌}
use mathlib.Core.List.{List, []}
use Rattle.refusal.specs.declared.Refusal.{Refusal}
use Rattle.refusal.specs.Numbers.{accepted}
use Rattle.refusal.specs.Rules.{Rule, outcome, in_order, all_hold}
use Rattle.refusal.proofs.InOrder.{accepted-all_hold, all_hold-good, refused-bad}
use Rattle.std.specs.Prelude.{Result, Ok, Err}
use Rattle.sheet.specs.Sheets.{reply_of}
use Rattle.atlas_file.specs.declared.State.{State}
use Rattle.atlas_file.specs.declared.reading.FileRefusal.{FileRefusal}
use Rattle.atlas_file.specs.Steps.{StepAnswer, at_record, refused_here}

module _ (rules : List Rule) (v : Result Unit Refusal) (e : reply_of v ≡ in_order 0 rules (accepted [])) where
  pub all_hold_lem : v ≡ (Ok tt) → all_hold rules ≡ true
  all_hold_lem g = accepted-all_hold 0 rules [] [] (rw g at e)

  pub outcome-good : v ≡ (Ok tt) → (A : Type 0) (good : A) (bad : Refusal → A) → outcome rules good bad ≡ good
  outcome-good g A good bad = all_hold-good A rules good bad (all_hold_lem g)

  pub outcome-bad : (r : Refusal) → v ≡ Err r → (A : Type 0) (good : A) (bad : Refusal → A) → outcome rules good bad ≡ bad r
  outcome-bad r f A good bad = refused-bad A 0 rules [] good bad r (rw f at e)

-- what an answer about the record at a state was
pub here-ok : {T : Type 0} (s : State) (v : Result T Refusal) {x : T} → Ok x ≡ at_record s v → v ≡ Ok x
here-ok s (Ok y) h = cc
here-ok s (Err r) h = cc

pub here-err : {T : Type 0} (s : State) (v : Result T Refusal) {why : FileRefusal} → Err why ≡ at_record s v →
    (r : Refusal) × (v ≡ Err r) × (why ≡ record { «refusal» = r; «offset» = s.«at» })
here-err s (Ok y) h = cc
here-err s (Err r) h = (r, refl, cc)

-- of one by rules
pub here-good : (rules : List Rule) (s : State) (v : Result Unit Refusal) → reply_of v ≡ in_order 0 rules (accepted []) → Ok tt ≡ at_record s v → all_hold rules ≡ true
here-good rules s v e h = all_hold_lem rules v e (here-ok s v h)

pub here-bad : (rules : List Rule) (s : State) (v : Result Unit Refusal) → reply_of v ≡ in_order 0 rules (accepted []) → {why : FileRefusal} → Err why ≡ at_record s v →
    (good : StepAnswer) → Err why ≡ outcome rules good (refused_here s)
here-bad rules s v e h good =
    let r = here-err s v h in
    ap Err r.2 ∙ sym (outcome-bad rules v e r.0 r.1 StepAnswer good (refused_here s))
