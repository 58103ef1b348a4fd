-- Two answers of reading, or of a step, never share a number and values. Assumes nothing.
use mathlib.Core.Path.{◌≡◌, refl, sym, ap, ◌∙◌}
use mathlib.Core.Bool.{cond}
use lib.Dec.{eqb}
use Rattle.std.specs.Prelude.{Ok, Err}
use Rattle.refusal.proofs.Distinct.{refusal_of, refusal-of_number, distinct_numbers, no_number_zero}
use Rattle.atlas_file.specs.declared.State.{State}
use Rattle.atlas_file.specs.declared.Found.{Found}
use Rattle.atlas_file.specs.declared.Found.TheVariants as found
use Rattle.atlas_file.specs.Reading.{FileReply}
use Rattle.atlas_file.specs.Steps.{StepAnswer, StepReply, found_reply, next_of, step_reply_of}
use Rattle.atlas_file.specs.Laws.{DistinctFileReplies, DistinctStepReplies}

number-of : {p q : FileReply} → p ≡ q → p.number ≡ q.number
number-of = ap (λ (x : FileReply). x.number)

pub distinct_file_replies : DistinctFileReplies
distinct_file_replies (Ok a) (Ok b) e = λ i. Ok (record { «count» = (e i).count; «sheet» = (e i).sheet })
distinct_file_replies (Ok a) (Err why) e = absurd (no_number_zero why.«refusal» (sym (number-of e)))
distinct_file_replies (Err why) (Ok b) e = absurd (no_number_zero why.«refusal» (number-of e))
distinct_file_replies (Err why) (Err reason) e =
    λ i. Err (record { «refusal» = distinct_numbers why.«refusal» reason.«refusal» (number-of e) i; «offset» = (e i).offset })

-- ---- of a step: what was found is read off its reply, and the state after it is in it as it is

step_in : StepReply → StepAnswer
step_in r =
    let advanced : Found → StepAnswer = λ f. Ok (record { «found» = f; «next» = r.next }) in
    cond (eqb r.which 1) (advanced (found.Sheet r.sheet))
    (cond (eqb r.which 2) (advanced (found.Place r.place))
    (cond (eqb r.which 3) (advanced (found.End r.count)) (Err (record { «refusal» = refusal_of r.number; «offset» = r.offset }))))

again : (s : State) (a : StepAnswer) → step_in (step_reply_of s a) ≡ a
unfolding step_in
again s (Ok advance) = by_found advance.«found»
  where
    by_found : (f : Found) → step_in (found_reply f advance.«next») ≡ Ok (record { «found» = f; «next» = advance.«next» })
    by_found (found.Sheet h) = refl
    by_found (found.Place p) = refl
    by_found (found.End count) = refl
again s (Err why) = ap (λ w. Err (record { «refusal» = w; «offset» = why.«offset» })) (refusal-of_number why.«refusal»)

next-in : (s : State) (a : StepAnswer) → (step_reply_of s a).next ≡ next_of s a
next-in s (Ok advance) = by_found advance.«found»
  where
    by_found : (f : Found) → (found_reply f advance.«next»).next ≡ advance.«next»
    by_found (found.Sheet h) = refl
    by_found (found.Place p) = refl
    by_found (found.End count) = refl
next-in s (Err why) = refl

pub distinct_step_replies : DistinctStepReplies
distinct_step_replies s t a b e =
    (sym (again s a) ∙ ap step_in e ∙ again t b, sym (next-in s a) ∙ ap (λ (r : StepReply). r.next) e ∙ next-in t b)
