-- A turn of the loop over the records: reading on from the state that a step leads to comes to the same reply. Assumes nothing.
use mathlib.Core.Path.{◌≡◌, refl, sym, ap, ◌∙◌}
use mathlib.Core.Bool.{true, true≢false}
use mathlib.Core.List.{List, [], ◌∷◌, ◌++◌}
use Prim.Native.Nat.{ℕ, zero, suc, ◌-◌, ◌≤◌, ◌<◌}
use native.Mathlib.Omega.{arith}
use lib.ListN.{length}
use Rattle.sheet.specs.Sheets.{passes_checks}
use Rattle.place.specs.declared.Place.{Place}
use Rattle.atlas_file.specs.declared.State.{State}
use Rattle.atlas_file.specs.declared.Found.{Found}
use Rattle.atlas_file.specs.declared.Found.TheVariants as found
use Rattle.std.specs.Prelude.{Ok, Err}
use Rattle.atlas_file.specs.declared.Advance.{Advance}
use Rattle.atlas_file.specs.declared.reading.FileRefusal.{FileRefusal}
use Rattle.atlas_file.specs.Steps.{StepAnswer, next_of, step_of}
use Rattle.atlas_file.specs.Reading.{FileReply, accepted_file, refused_file, goes_on, steps_on, read_from}
use Rattle.atlas_file.proofs.Views.{Stepped, refused, sheet, place, end, view}
use Rattle.atlas_file.proofs.Turns.{after_step, read_turn}
use Rattle.atlas_file.proofs.Moves.{leads}

-- from a state on, with steps enough and after some places, the file comes to a reply; and a sheet that was read passes its checks
pub record ReadsOn (b : List ℕ) (reply : FileReply) (s : State) : Type 0 where
  pub steps : ℕ
  pub places : List Place
  pub same : (read_from steps b s places).reply ≡ reply
  pub enough : length b - s.«at» < steps
  pub passed : s.sheet_read ≡ true → passes_checks s.«sheet» ≡ true

-- a sheet that a step reads passes its checks, and later steps keep it
still_passed : {b : List ℕ} {s : State} {a : StepAnswer} → Stepped b s a → (s.sheet_read ≡ true → passes_checks s.«sheet» ≡ true) →
    (next_of s a).sheet_read ≡ true → passes_checks (next_of s a).«sheet» ≡ true
still_passed (refused why offset) p = p
still_passed (sheet l rest i at unread ok) p = λ _. ok
still_passed (place l rest i at read few room ok) p = p
still_passed (end l i at read same) p = p

one_step : (b : List ℕ) (reply : FileReply) (s : State) (n : ℕ) (places : List Place) → (read_from n b s places).reply ≡ reply → length b - s.«at» < n →
    (m : ℕ) × ((after_step m b s places (step_of b s)).reply ≡ reply) × (length b - s.«at» ≤ m)
one_step b reply s zero places e h = absurd (let w : ⊥ = omega arith in w)
one_step b reply s (suc m) places e h = (m, sym (ap (λ x. x.reply) (read_turn m b s places)) ∙ e, omega arith)

module _ (b : List ℕ) (s : State) (a : StepAnswer) (e : a ≡ step_of b s) where
  stepped : Stepped b s a
  stepped = rw e (view b s)

  pub less : steps_on a ≡ true → length b - (next_of s a).«at» < length b - s.«at»
  less g = let l = leads stepped g in omega arith

  module _ (reply : FileReply) (on : ReadsOn b reply s) where
    turned : (m : ℕ) × ((after_step m b s on.places a).reply ≡ reply) × (length b - s.«at» ≤ m)
    turned = rw e (one_step b reply s on.steps on.places on.same on.enough)

    from_next : steps_on a ≡ true → (places : List Place) → (read_from turned.0 b (next_of s a) places).reply ≡ reply → ReadsOn b reply (next_of s a)
    from_next g places same = record {
      steps = turned.0;
      places = places;
      same = same;
      enough = let l = less g in let t = turned.2 in omega arith;
      passed = still_passed stepped on.passed;
    }

-- a step that is not refused
module _ (b : List ℕ) (s : State) (reply : FileReply) (on : ReadsOn b reply s) where
  by_found : (f : Found) (next : State) → Ok (record { «found» = f; «next» = next }) ≡ step_of b s → goes_on f ≡ true → ReadsOn b reply next
  by_found (found.Sheet h) next e g = from_next b s _ e reply on g on.places (turned b s _ e reply on).1
  by_found (found.Place p) next e g = from_next b s _ e reply on g (on.places ++ (p ∷ [])) (turned b s _ e reply on).1
  by_found (found.End count) next e g = absurd (true≢false (sym g))

  pub reads_on : (advance : Advance) → Ok advance ≡ step_of b s → goes_on advance.«found» ≡ true → ReadsOn b reply advance.«next»
  reads_on advance = by_found advance.«found» advance.«next»

  pub ends : (advance : Advance) → Ok advance ≡ step_of b s → (count : ℕ) → advance.«found» ≡ found.End count → accepted_file count s.«sheet» ≡ reply
  ends advance e count k = (turned b s (Ok (record { «found» = found.End count; «next» = advance.«next» })) (rw k at e) reply on).1

  pub refuses : (why : FileRefusal) → Err why ≡ step_of b s → refused_file why.«refusal» why.«offset» ≡ reply
  refuses why e = (turned b s _ e reply on).1

-- what is found is a sheet or a place, unless it is the end
pub unless_end : (f : Found) → ((count : ℕ) → f ≡ found.End count → ⊥) → goes_on f ≡ true
unless_end (found.Sheet h) other = refl
unless_end (found.Place p) other = refl
unless_end (found.End count) other = absurd (other count refl)
