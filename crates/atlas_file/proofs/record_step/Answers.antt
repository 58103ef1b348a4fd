-- `atlas_file::record_step` meets its contract. Assumes nothing.
use mathlib.Core.Bool.{Bool, true, false}
use mathlib.Core.Path.{◌≡◌, refl, sym, ◌∙◌}
use mathlib.Core.List.{List}
use Prim.Native.Nat.{ℕ, suc, ◌+◌, ◌-◌, ◌<◌, ◌≤◌}
use native.Mathlib.Omega.{arith}
use borrow.Author.Tests.{ltb-true, ltb-false, lt-ltb, le-ltb}
use lib.Dec.{ltb}
use lib.ListN.{length, drop, length-drop}
use Rattle.refusal.proofs.InOrder.{in_turn_lem, all_hold-good}
use Rattle.std.proofs.lemmas.Result.{err_from_is_err_and}
use Rattle.records.specs.Records.{body_of}
use Rattle.atlas_file.specs.Steps.{due_rules, record_step}
use Rattle.atlas_file.proofs.ByVerdict.{here-good, here-bad}
use Rattle.atlas_file.proofs.Views.{is_whole, a_record}
use Rattle.atlas_file.proofs.record_step.Goals as goal

-- the part of the bytes that is lent is the record, and whether bytes follow it can be told from what is left
part-size : (at body : ℕ) → at + 1 + body - at ≡ suc body
part-size at body = omega arith

more-is : (at body size : ℕ) → at ≤ size → ltb (at + 1 + body) size ≡ ltb (suc body) (size - at)
more-is at body size h = by_test (ltb (at + 1 + body) size) refl
  where
    by_test : (t : Bool) → ltb (at + 1 + body) size ≡ t → ltb (at + 1 + body) size ≡ ltb (suc body) (size - at)
    by_test true e = let l : at + 1 + body < size = ltb-true _ _ e in e ∙ sym (lt-ltb (suc body) (size - at) (omega arith))
    by_test false e = let l : size ≤ at + 1 + body = ltb-false _ _ e in e ∙ sym (le-ltb (suc body) (size - at) (omega arith))

whole : (at body : ℕ) (bytes : List ℕ) → body < length bytes - at → ltb body (length (drop at bytes)) ≡ true
whole at body bytes h = rw length-drop (lt-ltb _ _ h)

pub returns-in_err-here : goal.returns-in_err-here
unfolding record_step
returns-in_err-here c =
    let p = err_from_is_err_and c.from_residual.result c.from_residual.ensures.1 in
    rw (p.1, p.2, in_turn_lem) (here-bad (due_rules c.args.which c.args.state) c.args.state _ c.due.ensures c.in_err-here.ensures _)

pub returns-then-bytes-state : goal.returns-then-bytes-state
unfolding record_step
returns-then-bytes-state c =
    let a = c.args in
    let due = here-good (due_rules a.which a.state) a.state _ c.due.ensures c.in_ok-here.ensures in
    let short = rw c.body-body.ensures at c.if-bytes-state.true in
    rw (in_turn_lem, all_hold-good _ (due_rules a.which a.state) _ _ due, length-drop, le-ltb _ _ short) c.here-then-bytes-state.ensures

pub content_step-requires : goal.content_step-requires
content_step-requires c =
    let a = c.args in
    let w = whole a.state.«at» (body_of a.which) a.bytes.now (rw c.body-body.ensures at c.if-bytes-state.false) in
    rw (c.body-body.ensures, part-size a.state.«at» (body_of a.which)) (record {
      sheet_value = c.requires.sheet_value;
      fact = a_record a.bytes.now a.state a.which w c.requires.at_value;
      end_value = rw (is_whole a.bytes.now a.state a.which w) (omega arith);
      state_value = here-good (due_rules a.which a.state) a.state _ c.due.ensures c.in_ok-here.ensures;
    })

pub returns : goal.returns
unfolding record_step
returns c =
    let a = c.args in
    let due = here-good (due_rules a.which a.state) a.state _ c.due.ensures c.in_ok-here.ensures in
    let w = whole a.state.«at» (body_of a.which) a.bytes.now (rw c.body-body.ensures at c.if-bytes-state.false) in
    rw (in_turn_lem, all_hold-good _ (due_rules a.which a.state) _ _ due, w, length-drop)
    (rw (c.body-body.ensures, part-size a.state.«at» (body_of a.which), more-is a.state.«at» (body_of a.which) (length a.bytes.now) (omega arith)) at c.content_step.ensures)
