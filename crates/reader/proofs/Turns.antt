-- A turn of the loop that steps a reader through a file. Assumes nothing.
use mathlib.Core.Path.{◌≡◌, sym, ap, ◌∙◌}
use mathlib.Core.Bool.{true}
use mathlib.Core.List.{List}
use Prim.Native.Nat.{ℕ, ◌-◌, ◌<◌}
use lib.ListN.{length}
use Rattle.std.specs.Prelude.{Ok, Err}
use Rattle.atlas_file.specs.declared.State.{State}
use Rattle.atlas_file.specs.declared.Advance.{Advance}
use Rattle.atlas_file.specs.declared.Found.TheVariants as found
use Rattle.atlas_file.specs.declared.reading.FileRefusal.{FileRefusal}
use Rattle.atlas_file.specs.Steps.{StepAnswer, next_of, step_of, step_reply_of, step_reply}
use Rattle.atlas_file.specs.Reading.{FileReply, accepted_file, refused_file, goes_on, steps_on}
use Rattle.atlas_file.proofs.Answers.{distinct_step_replies}
use Rattle.atlas_file.proofs.Moves.{stays}
use Rattle.atlas_file.proofs.ReadsOn.{ReadsOn, less, reads_on, ends, refuses}
use Rattle.reader.specs.declared.Reader.{Reader}

-- a reader of the file b: from where it stands, reading on comes to the reply
pub record Stands (b : List ℕ) (reply : FileReply) (d : Reader) : Type 0 where
  pub file : d.«bytes».now ≡ b
  pub on : ReadsOn b reply d.«state»

module _ {b : List ℕ} {reply : FileReply} {d : Reader} (stands : Stands b reply d) where
  abbrev s : State
  s = d.«state»

  is_step : (a : StepAnswer) → step_reply_of s a ≡ step_reply d.«bytes».now s → a ≡ step_of b s
  is_step a steps = (distinct_step_replies s s a _ steps).0 ∙ ap (λ (l : List ℕ). step_of l s) stands.file

  pub at_refusal : (why : FileRefusal) → step_reply_of s (Err why) ≡ step_reply d.«bytes».now s → refused_file why.«refusal» why.«offset» ≡ reply
  at_refusal why steps = refuses b s reply stands.on why (is_step (Err why) steps)

  -- its step is not refused
  module _ (advance : Advance) (steps : step_reply_of s (Ok advance) ≡ step_reply d.«bytes».now s) where
    -- where the file goes on, the reader e is moved to the next state
    module _ (goes : goes_on advance.«found» ≡ true) {e : Reader} (same : (e.«bytes» ≡ d.«bytes») × (e.«state» ≡ advance.«next»)) where
      pub is_less : length b - e.«state».«at» < length b - s.«at»
      is_less = rw same.1 (less b s (Ok advance) (is_step (Ok advance) steps) goes)

      pub still_stands : Stands b reply e
      still_stands = record { file = ap (λ x. x.now) same.0 ∙ stands.file; on = rw same.1 (reads_on b s reply stands.on advance (is_step (Ok advance) steps) goes) }

    -- at the end the state stays
    pub at_end : (count : ℕ) → advance.«found» ≡ found.End count → accepted_file count advance.«next».«sheet» ≡ reply
    at_end count k =
        let is = is_step (Ok advance) steps in
        let here : advance.«next» ≡ s = ap (next_of s) is ∙ stays b s (ap steps_on (sym is) ∙ ap goes_on k) in
        ap (λ (x : State). accepted_file count x.«sheet») here ∙ ends b s reply stands.on advance is count k
