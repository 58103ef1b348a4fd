-- Where a step leads: past exactly one record, or nowhere. Assumes nothing.
use mathlib.Core.Path.{◌≡◌, refl, sym, ap, subst, ◌∙◌}
use mathlib.Core.Bool.{true, false, true≢false}
use mathlib.Core.List.{List, ◌++◌}
use Prim.Native.Nat.{ℕ, zero, suc, ◌+◌, ◌-◌, ◌≤◌, ◌<◌}
use native.Mathlib.Omega.{arith}
use lib.ListN.{length, drop, length-drop, length-append}
use lib.Seq.{drop-drop, drop-append_seam}
use Rattle.records.specs.declared.Record.{Record}
use Rattle.records.specs.declared.Record.TheVariants as records
use Rattle.place.specs.declared.Place.{Place}
use Rattle.atlas_file.specs.declared.State.{State}
use Rattle.atlas_file.specs.declared.Found.{Found}
use Rattle.atlas_file.specs.declared.Found.TheVariants as found
use Rattle.std.specs.Prelude.{Ok, Err}
use Rattle.records.specs.Records.{IsRecord, sheet_of, place_of, end_of}
use Rattle.atlas_file.specs.Steps.{StepAnswer, most_places, past_sheet, past_place, next_of, step_of}
use Rattle.refusal.specs.Rules.{all_hold}
use Rattle.sheet.specs.Sheets.{passes_checks}
use Rattle.place.specs.Places.{place_rules}
use Rattle.atlas_file.specs.Reading.{goes_on, steps_on, read_from}
use Rattle.atlas_file.specs.Laws.{OneRecord, SheetMoves, PlaceMoves, EndIsLast, Stays, SameAgain, BoundNeverReached}
use Rattle.atlas_file.proofs.Views.{Stepped, refused, sheet, place, end, view}
use Rattle.atlas_file.proofs.Turns.{after_step, read_turn}

-- a record at the front of what is left has a byte or more, and is within the file
pub further : (which : Record) (b r rest : List ℕ) (at : ℕ) → IsRecord which r → drop at b ≡ r ++ rest → (at < at + length r) × (at + length r ≤ length b)
further which b r rest at i e =
    let l : length (drop at b) ≡ length r + length rest = ap length e ∙ length-append r rest in
    let d : length (drop at b) ≡ length b - at = length-drop at b in
    (omega (arith, i.whole), omega (arith, i.whole))

-- what follows it
pub behind : (b r rest : List ℕ) (at : ℕ) → drop at b ≡ r ++ rest → drop (at + length r) b ≡ rest
behind b r rest at e = sym (drop-drop (length r) at b) ∙ ap (drop (length r)) e ∙ drop-append_seam r rest

one_record : (which : Record) (b : List ℕ) (s next : State) (r rest : List ℕ) → IsRecord which r → drop s.«at» b ≡ r ++ rest → next.«at» ≡ s.«at» + length r →
    OneRecord which b s next r
one_record which b s next r rest i e p = record {
  is_record = i;
  here = e ∙ ap (λ (l : List ℕ). r ++ l) (sym (behind b r rest s.«at» e) ∙ ap (λ (k : ℕ). drop k b) (sym p));
  past = p;
}

-- what each answer says of the record from which it comes
abbrev Moved : List ℕ → State → Found → State → Type 0
Moved b s (found.Sheet h) next =
    (r : List ℕ) × OneRecord records.Sheet b s next r × (h ≡ sheet_of r) × (next ≡ past_sheet s r) × (s.sheet_read ≡ false) × (passes_checks h ≡ true)
Moved b s (found.Place p) next =
    (r : List ℕ)
    × OneRecord records.Place b s next r
    × (p ≡ place_of r)
    × (next ≡ past_place s r)
    × (s.sheet_read ≡ true)
    × (s.«count» < most_places)
    × (s.«count» < s.«room»)
    × (all_hold (place_rules s.«sheet» s.«count» s.last_id p) ≡ true)
Moved b s (found.End count) next =
    (r : List ℕ) × IsRecord records.End r × (drop s.«at» b ≡ r) × (s.sheet_read ≡ true) × (count ≡ end_of r) × (count ≡ s.«count»)

abbrev MovedBy : List ℕ → State → StepAnswer → Type 0
MovedBy b s (Ok advance) = Moved b s advance.«found» advance.«next»
MovedBy b s (Err why) = Unit {0}

module _ {b : List ℕ} {s : State} where
  moved : {a : StepAnswer} → Stepped b s a → MovedBy b s a
  moved (refused why offset) = tt
  moved (sheet r rest i at unread ok) = (r, one_record records.Sheet b s _ r rest i at refl, refl, refl, unread, ok)
  moved (place r rest i at read few room ok) = (r, one_record records.Place b s _ r rest i at refl, refl, refl, read, few, room, ok)
  moved (end r i at read same) = (r, i, at, read, refl, same)

  stayed : {a : StepAnswer} → Stepped b s a → steps_on a ≡ false → next_of s a ≡ s
  stayed (refused why offset) e = refl
  stayed (sheet l rest i at unread ok) e = absurd (true≢false e)
  stayed (place l rest i at read few room ok) e = absurd (true≢false e)
  stayed (end l i at read same) e = refl

  -- a step after which the file goes on leads further, within the file
  pub leads : {a : StepAnswer} → Stepped b s a → steps_on a ≡ true → (s.«at» < (next_of s a).«at») × ((next_of s a).«at» ≤ length b)
  leads (refused why offset) e = absurd (true≢false (sym e))
  leads (sheet l rest i at unread ok) e = further records.Sheet b l rest s.«at» i at
  leads (place l rest i at read few room ok) e = further records.Place b l rest s.«at» i at
  leads (end l i at read same) e = absurd (true≢false (sym e))

pub sheet-moves : SheetMoves
sheet-moves b s next h e = subst (MovedBy b s) e (moved (view b s))

pub place-moves : PlaceMoves
place-moves b s next p e = subst (MovedBy b s) e (moved (view b s))

pub end_is_last : EndIsLast
end_is_last b s next count e = subst (MovedBy b s) e (moved (view b s))

pub stays : Stays
stays b s = stayed (view b s)

pub same_again : SameAgain
same_again b s e = ap (step_of b) (stays b s e)

-- two readings on from a step are the same, where they are the same from the next state on
same_after : (m n : ℕ) (b : List ℕ) (s : State) (places : List Place) (a : StepAnswer) →
    (steps_on a ≡ true → (ps : List Place) → read_from m b (next_of s a) ps ≡ read_from n b (next_of s a) ps) →
    after_step m b s places a ≡ after_step n b s places a
same_after m n b s places (Ok advance) same = by_found advance.«found» same
  where
    by_found : (f : Found) → (goes_on f ≡ true → (ps : List Place) → read_from m b advance.«next» ps ≡ read_from n b advance.«next» ps) →
        after_step m b s places (Ok (record { «found» = f; «next» = advance.«next» })) ≡ after_step n b s places (Ok (record { «found» = f; «next» = advance.«next» }))
    by_found (found.Sheet h) same = same refl _
    by_found (found.Place p) same = same refl _
    by_found (found.End count) same = refl
same_after m n b s places (Err why) same = refl

pub bound_never_reached : BoundNeverReached
bound_never_reached b s places zero n h k = absurd (let w : ⊥ = omega arith in w)
bound_never_reached b s places (suc m) zero h k = absurd (let w : ⊥ = omega arith in w)
bound_never_reached b s places (suc m) (suc n) h k =
    read_turn m b s places
    ∙ same_after m n b s places (step_of b s) (λ g ps.
    let l = leads (view b s) g in
    bound_never_reached b (next_of s (step_of b s)) ps m n (omega arith) (omega arith))
    ∙ sym (read_turn n b s places)
