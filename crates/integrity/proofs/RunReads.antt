-- What the step is at a whole record, and that a run of records is read to its end. Assumes nothing.
use mathlib.Core.Path.{◌≡◌, refl, sym, ap, ◌∙◌}
use mathlib.Core.Bool.{true, false}
use mathlib.Core.List.{List, [], ◌∷◌, ◌++◌, append-nil}
use Prim.Native.Nat.{ℕ, zero, suc, ◌+◌, ◌*◌, ◌≤◌, ◌<◌}
use native.Mathlib.Nat.{add-zero, zero-add}
use native.Mathlib.Omega.{arith}
use lib.ListN.{length, get_or, take, drop, length-drop, length-append}
use lib.Seq.{take_at, append_snoc}
use lib.Dec.{ltb}
use borrow.Author.Tests.{lt-ltb, le-ltb, eq-eqb}
use Rattle.std.specs.Prelude.{Result, Ok}
use Rattle.refusal.specs.declared.Refusal.{Refusal}
use Rattle.refusal.specs.declared.Refusal.TheVariants.{Cut, NoRoom}
use Rattle.refusal.specs.Rules.{◌else-refuse◌, all_hold}
use Rattle.refusal.proofs.InOrder.{all_hold-good, hold_together}
use Rattle.sheet.specs.Sheets.{sheet_rules}
use Rattle.records.specs.declared.Record.{Record}
use Rattle.records.specs.declared.Record.TheVariants as records
use Rattle.place.specs.declared.Place.{Place}
use Rattle.atlas_file.specs.declared.State.{State}
use Rattle.atlas_file.specs.declared.Found.TheVariants as found
use Rattle.records.specs.Records.{layout_of, body_of, IsRecord, sheet_of, place_of, end_of}
use Rattle.place.specs.Places.{place_rules}
use Rattle.atlas_file.specs.Steps.{StepAnswer, past_sheet, past_place, most_places, refused_step, refused_here, due_rules, end_rules, last_rules, sheet_step, place_step, end_step, content_step, record_step, layout_step, step_of}
use Rattle.atlas_file.specs.Reading.{accepted_reading, start_of, read_from, read_of}
use Rattle.atlas_file.proofs.Views.{first_byte}
use Rattle.atlas_file.proofs.Turns.{after_step, read_turn}
use Rattle.records.proofs.PlaceRecords.{place-length, end_length}
use Rattle.atlas_file.proofs.Moves.{further, behind}

-- the step at a whole record
module _ (b : List ℕ) (s : State) (which : Record) (r rest : List ℕ) (i : IsRecord which r) (at : drop s.«at» b ≡ r ++ rest) where
  abbrev left : List ℕ
  left = drop s.«at» b

  layout_is : layout_of (get_or b s.«at» 0) ≡ Ok which
  layout_is = ap layout_of (first_byte b r rest s.«at» at (omega (arith, i.whole))) ∙ i.layout

  front : take (suc (body_of which)) left ≡ r
  front = ap (take (suc (body_of which))) at ∙ take_at r rest (suc (body_of which)) i.whole

  left_length : length left ≡ length r + length rest
  left_length = ap length at ∙ length-append r rest

  reaches : step_of b s ≡ record_step which left s
  unfolding step_of
  reaches =
      let f = further which b r rest s.«at» i at in
      all_hold-good StepAnswer ((ltb s.«at» (length b) else-refuse Cut) ∷ []) _ (refused_here s) (rw (lt-ltb s.«at» (length b) (omega (arith, f.0, f.1))) refl)
      ∙ ap (λ (l : Result Record Refusal). layout_step l left s) layout_is

  -- that is due
  step_is : all_hold (due_rules which s) ≡ true → step_of b s ≡ content_step which r (ltb (length r) (length r + length rest)) s
  unfolding record_step
  step_is due =
      reaches
      ∙ all_hold-good StepAnswer (due_rules which s ++ ((ltb (body_of which) (length left) else-refuse Cut) ∷ [])) _ (refused_here s)
      (hold_together (due_rules which s) _ due (rw (lt-ltb (body_of which) (length left) (omega (arith, i.whole, left_length))) refl))
      ∙ (λ j. content_step which (front j) (ltb (sym i.whole j) (left_length j)) s)

pub sheet-reads : (b : List ℕ) (s : State) (r rest : List ℕ) → IsRecord records.Sheet r → drop s.«at» b ≡ r ++ rest → s.sheet_read ≡ false →
    all_hold (sheet_rules (sheet_of r)) ≡ true →
    step_of b s ≡ Ok (record { «found» = found.Sheet (sheet_of r); «next» = past_sheet s r })
unfolding due_rules content_step sheet_step
sheet-reads b s r rest i at unread ok = step_is b s records.Sheet r rest i at (rw unread refl) ∙ all_hold-good StepAnswer (sheet_rules (sheet_of r)) _ (refused_here s) ok

pub place-reads : (b : List ℕ) (s : State) (r rest : List ℕ) → IsRecord records.Place r → drop s.«at» b ≡ r ++ rest → s.sheet_read ≡ true →
    s.«count» < most_places → s.«count» < s.«room» → all_hold (place_rules s.«sheet» s.«count» s.last_id (place_of r)) ≡ true →
    step_of b s ≡ Ok (record { «found» = found.Place (place_of r); «next» = past_place s r })
unfolding due_rules content_step place_step
place-reads b s r rest i at read few room ok =
    step_is b s records.Place r rest i at (rw (read, lt-ltb s.«count» most_places few, lt-ltb s.«count» s.«room» room) refl)
    ∙ all_hold-good StepAnswer (place_rules s.«sheet» s.«count» s.last_id (place_of r)) _ (refused_here s) ok

-- a place without room
pub full_refuses : (b : List ℕ) (s : State) (r rest : List ℕ) → IsRecord records.Place r → drop s.«at» b ≡ r ++ rest → s.sheet_read ≡ true →
    s.«count» < most_places → s.«room» ≤ s.«count» → step_of b s ≡ refused_here s NoRoom
unfolding due_rules record_step
full_refuses b s r rest i at read few full =
    reaches b s records.Place r rest i at ∙ rw (read, lt-ltb s.«count» most_places few, le-ltb s.«count» s.«room» full) refl

pub end_reads : (b : List ℕ) (s : State) (r : List ℕ) → IsRecord records.End r → drop s.«at» b ≡ r → s.sheet_read ≡ true → end_of r ≡ s.«count» →
    step_of b s ≡ Ok (record { «found» = found.End (end_of r); «next» = s })
unfolding due_rules content_step end_step
end_reads b s r i at read same =
    step_is b s records.End r [] i (at ∙ sym (append-nil r)) (rw read refl)
    ∙ all_hold-good StepAnswer (end_rules r s) _ (refused_here s) (rw (eq-eqb (end_of r) s.«count» same) refl)
    ∙ all_hold-good StepAnswer (last_rules (ltb (length r) (length r + 0))) _ (λ why. refused_step why (s.«at» + length r)) (rw (le-ltb (length r) (length r + 0) (omega arith)) refl)

-- from a state on, behind the sheet, the file has the records of these places and the end
pub data Run (b : List ℕ) : State → List Place → Type 0 where
  ends : {s : State} (r : List ℕ) → IsRecord records.End r → drop s.«at» b ≡ r → end_of r ≡ s.«count» → Run b s []
  goes : {s : State} {ps : List Place} (r rest : List ℕ) → IsRecord records.Place r → drop s.«at» b ≡ r ++ rest → s.«count» < most_places → s.«count» < s.«room» →
      all_hold (place_rules s.«sheet» s.«count» s.last_id (place_of r)) ≡ true → Run b (past_place s r) ps → Run b s (place_of r ∷ ps)

pub run_length : {b : List ℕ} {s : State} {ps : List Place} → Run b s ps → length (drop s.«at» b) ≡ 37 * length ps + 5
run_length (ends r i at same) = ap length at ∙ end_length r i
run_length {b} {s} (goes r rest i at few room ok run) =
    let l : length (drop s.«at» b) ≡ length r + length rest = ap length at ∙ length-append r rest in
    let k : length rest ≡ _ = ap length (sym (behind b r rest s.«at» at)) ∙ run_length run in
    omega (arith, place-length r i)

-- a run has fewer places than there are bytes
pub run_short : {b : List ℕ} {s : State} {ps : List Place} → Run b s ps → length ps < length b
run_short {b} {s} run = omega (arith, run_length run, length-drop s.«at» b)

-- a run is read to its end
pub run_reads : {b : List ℕ} {s : State} {ps : List Place} (n : ℕ) (places : List Place) → Run b s ps → s.sheet_read ≡ true → length ps < n →
    read_from n b s places ≡ accepted_reading (s.«count» + length ps) s.«sheet» (places ++ ps)
run_reads zero places run read h = absurd (let w : ⊥ = omega arith in w)
run_reads {b} {s} (suc n) places (ends r i at same) read h =
    read_turn n b s places
    ∙ ap (after_step n b s places) (end_reads b s r i at read same)
    ∙ (λ j. accepted_reading ((same ∙ sym (add-zero s.«count»)) j) s.«sheet» (sym (append-nil places) j))
run_reads {b} {s} (suc n) places (goes {ps = ps} r rest i at few room ok run) read h =
    let count : s.«count» + 1 + length ps ≡ s.«count» + suc (length ps) = omega arith in
    read_turn n b s places
    ∙ ap (after_step n b s places) (place-reads b s r rest i at read few room ok)
    ∙ run_reads {s = past_place s r} n (places ++ (place_of r ∷ [])) run read (omega arith)
    ∙ (λ j. accepted_reading (count j) s.«sheet» (append_snoc places (place_of r) ps j))

-- a file that begins with a good sheet's record is read on behind it
pub sheet-first : (b : List ℕ) (room : ℕ) (r rest : List ℕ) → IsRecord records.Sheet r → b ≡ r ++ rest → all_hold (sheet_rules (sheet_of r)) ≡ true →
    read_of b room ≡ read_from (length b) b (past_sheet (start_of room) r) []
unfolding read_of start_of
sheet-first b room r rest i e ok =
    read_turn (length b) b (start_of room) [] ∙ ap (after_step (length b) b (start_of room) []) (sheet-reads b (start_of room) r rest i e refl ok)

-- to its end, if a run of places follows
pub file_reads : (b : List ℕ) (room : ℕ) (r rest : List ℕ) (ps : List Place) → IsRecord records.Sheet r → b ≡ r ++ rest → all_hold (sheet_rules (sheet_of r)) ≡ true →
    Run b (past_sheet (start_of room) r) ps →
    read_of b room ≡ accepted_reading (length ps) (sheet_of r) ps
unfolding start_of
file_reads b room r rest ps i e ok run =
    sheet-first b room r rest i e ok
    ∙ run_reads (length b) [] run refl (run_short run)
    ∙ ap (λ (k : ℕ). accepted_reading k (sheet_of r) ps) (zero-add (length ps))
