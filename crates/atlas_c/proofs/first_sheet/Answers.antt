-- `atlas_c::first_sheet` meets its contract. Assumes nothing.
use mathlib.Core.Path.{◌≡◌, ap, sym, ◌∙◌}
use mathlib.Core.List.{List}
use mathlib.Core.Logic.{inl, inr}
use Prim.Native.Nat.{ℕ}
use borrow.Author.Tests.{eq-eqb, ne_eqb}
use Rattle.std.specs.Prelude.{Ok, Err}
use Rattle.atlas_file.specs.declared.State.{State}
use Rattle.atlas_file.specs.Steps.{StepAnswer, step_of, step_reply_of, step_reply}
use Rattle.atlas_file.specs.Reading.{start_of}
use Rattle.atlas_file.proofs.Moves.{sheet-moves}
use Rattle.atlas_file.proofs.Answers.{distinct_step_replies}
use Rattle.atlas_c.specs.Given.{first_sheet, sheet_in}
use Rattle.atlas_c.proofs.first_sheet.Goals as goal

-- the first step of a reader over the bytes
first : (b : List ℕ) (s : State) (a : StepAnswer) → s ≡ start_of 0 → step_reply_of s a ≡ step_reply b s → a ≡ step_of b (start_of 0)
first b s a start e = (distinct_step_replies s s a _ e).0 ∙ ap (step_of b) start

pub returns-in-Err : goal.returns-in-Err
unfolding first_sheet sheet_in
returns-in-Err c = rw (← (first c.args.bytes.now _ (Err c.in-Err.why) c.start.ensures c.in-Err.ensures))

pub returns-then-advance-bytes : goal.returns-then-advance-bytes
unfolding first_sheet sheet_in
returns-then-advance-bytes c = rw (← (first c.args.bytes.now _ (Ok c.in-Ok.advance) c.start.ensures c.in-Ok.ensures), c.in-Sheet.is, ne_eqb _ _ c.if-advance-bytes.true)

pub invariant_of-result : goal.invariant_of-result
invariant_of-result c =
    let is = first c.args.bytes.now _ (Ok c.in-Ok.advance) c.start.ensures c.in-Ok.ensures in
    record { passes = (sheet-moves c.args.bytes.now (start_of 0) c.in-Ok.advance.next c.in-Sheet.sheet (sym (rw c.in-Sheet.is at is))).5 }

pub returns-else-advance-bytes : goal.returns-else-advance-bytes
unfolding first_sheet sheet_in
returns-else-advance-bytes c = rw (← (first c.args.bytes.now _ (Ok c.in-Ok.advance) c.start.ensures c.in-Ok.ensures), c.in-Sheet.is, eq-eqb _ _ c.if-advance-bytes.false)

pub returns-in-Place : goal.returns-in-Place
unfolding first_sheet sheet_in
returns-in-Place c =
    rw (← (first c.args.bytes.now _ (Ok c.in-Ok.advance) c.start.ensures c.in-Ok.ensures))
    (elim c.in-Place.is [ inl place ↦ rw place.1 | inr end ↦ rw end.1 ])
