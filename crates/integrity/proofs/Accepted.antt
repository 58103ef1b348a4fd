-- What an accepted file is: a sheet's record, the records of its places, the end; and what follows from it. Assumes nothing.
use mathlib.Core.Path.{◌≡◌, refl, sym, ap, subst, ◌∙◌}
use mathlib.Core.Bool.{true, true≢false}
use mathlib.Core.List.{List, [], ◌∷◌, ◌++◌, append_assoc, append-nil}
use Prim.Native.Nat.{ℕ, zero, suc, ◌+◌, ◌*◌, ◌≤◌}
use mathlib.Mathlib.Data.Bool.Basic.{and_elim_left, and_elim_right}
use lib.Dec.{ltb, leb}
use borrow.Author.Tests.{ltb-true, ltb-false, leb-true, le-leb}
use native.Mathlib.Nat.{add-zero, zero-add}
use native.Mathlib.Omega.{arith}
use lib.ListN.{length, drop, length-append, get_or-eq_default}
use lib.IntN.{pos}
use Rattle.arith.proofs.Choose.{by_test}
use Rattle.refusal.specs.declared.Refusal.TheVariants.{Cut}
use Rattle.refusal.specs.Numbers.{Reply, accepted}
use Rattle.refusal.specs.Rules.{all_hold}
use Rattle.refusal.proofs.Distinct.{no_number_zero}
use Rattle.sheet.specs.declared.Sheet.{Sheet}
use Rattle.sheet.specs.Sheets.{sheet_rules}
use Rattle.records.specs.declared.Record.TheVariants as records
use Rattle.place.specs.declared.Place.{Place}
use Rattle.atlas_file.specs.declared.State.{State}
use Rattle.records.specs.Records.{IsRecord, sheet_of, place_of, sheet_record, place_record, end_record}
use Rattle.place.specs.Places.{place_rules}
use Rattle.atlas_file.specs.Steps.{StepAnswer, past_sheet, past_place, most_places}
use Rattle.atlas_file.specs.Reading.{Reading, accepted_reading, start_of, read_from, read_of, read_reply, places_read}
use Rattle.atlas_file.proofs.Views.{byte_at, Stepped, refused, sheet, place, end, view}
use Rattle.little_endian.specs.Numbers.{Bytes}
use Rattle.atlas_file.specs.Writing.{place_records, file_of, places_rules, list_rules, write_rules}
use Rattle.integrity.specs.Integrity.{FileLength, CountIsPlaces, ReadIsGood, LongestFile, WritesBack, WriterAccepts}
use Rattle.refusal.proofs.InOrder.{both_hold, hold_together, all_hold-good}
use Rattle.records.proofs.SheetRecords.{sheet-as_long, sheet-most, sheet-forth}
use Rattle.records.proofs.PlaceRecords.{place-forth, end_forth}
use Rattle.records.specs.Laws.{longest_sheet_record}
use Rattle.atlas_file.proofs.Moves.{behind}
use Rattle.atlas_file.proofs.Turns.{after_step}
use Rattle.integrity.proofs.RunReads.{Run, ends, goes, run_length, file_reads}

-- a file that is read from such a state to its end
runs_turn : (n : ℕ) (b : List ℕ) (s : State) (places : List Place) {r : StepAnswer} → Stepped b s r → s.sheet_read ≡ true → (after_step n b s places r).reply.number ≡ 0 →
    ((t : State) (qs : List Place) → t.sheet_read ≡ true → (read_from n b t qs).reply.number ≡ 0 → (ps : List Place) × Run b t ps) →
    (ps : List Place) × Run b s ps
runs_turn n b s places (refused why offset) read e on = absurd (no_number_zero why e)
runs_turn n b s places (sheet r rest i at unread ok) read e on = absurd (true≢false (sym read ∙ unread))
runs_turn n b s places (place r rest i at _ few room ok) read e on =
    let o = on (past_place s r) (places ++ (place_of r ∷ [])) read e in
    (place_of r ∷ o.0, goes r rest i at few room ok o.1)
runs_turn n b s places (end r i at _ same) read e on = ([], ends r i at same)

runs : (n : ℕ) (b : List ℕ) (s : State) (places : List Place) → s.sheet_read ≡ true → (read_from n b s places).reply.number ≡ 0 → (ps : List Place) × Run b s ps
unfolding read_from
runs zero b s places read e = absurd (no_number_zero Cut e)
runs (suc n) b s places read e = runs_turn n b s places (view b s) read e (runs n b)

-- an accepted file: the sheet's record r at its front, then such a run of its places
pub record Whole (b : List ℕ) (room : ℕ) : Type 0 where
  pub bytes : List ℕ
  pub rest : List ℕ
  pub places : List Place
  pub is_sheet : IsRecord records.Sheet bytes
  pub front : b ≡ bytes ++ rest
  pub good : all_hold (sheet_rules (sheet_of bytes)) ≡ true
  pub run : Run b (past_sheet (start_of room) bytes) places
  pub reads : read_of b room ≡ accepted_reading (length places) (sheet_of bytes) places

whole-turn : (n : ℕ) (b : List ℕ) (room : ℕ) {r : StepAnswer} → Stepped b (start_of room) r → (after_step n b (start_of room) [] r).reply.number ≡ 0 →
    Whole b room
unfolding start_of
whole-turn n b room (refused why offset) e = absurd (no_number_zero why e)
whole-turn n b room (sheet r rest i at unread ok) e =
    let o = runs n b (past_sheet (start_of room) r) [] refl e in
    record {
      bytes = r;
      rest = rest;
      places = o.0;
      is_sheet = i;
      front = at;
      good = ok;
      run = o.1;
      reads = file_reads b room r rest o.0 i at ok o.1;
    }
whole-turn n b room (place r rest i at read few fits ok) e = absurd (true≢false (sym read))
whole-turn n b room (end r i at read same) e = absurd (true≢false (sym read))

pub whole : (b : List ℕ) (room : ℕ) → (read_of b room).reply.number ≡ 0 → Whole b room
unfolding read_of read_from
whole b room e = whole-turn (length b) b room (view b (start_of room)) e

-- ---- the count

run_count : {b : List ℕ} {s : State} {ps : List Place} → Run b s ps → s.«count» ≤ most_places → s.«count» ≤ s.«room» →
    (s.«count» + length ps ≤ most_places) × (s.«count» + length ps ≤ s.«room»)
run_count (ends r i at same) m f = (omega arith, omega arith)
run_count (goes r rest i at few room ok run) m f = let k = run_count run (omega arith) (omega arith) in (omega (arith, k.0), omega (arith, k.1))

-- ---- the bytes and the rules

pub bytes_of-part : (b r rest : List ℕ) (at : ℕ) → Bytes b → drop at b ≡ r ++ rest → Bytes r
bytes_of-part b r rest at h e i =
    by_test (ltb i (length r))
    (λ l. rw (← (byte_at b r rest at i e (ltb-true _ _ l))) (h (at + i)))
    (λ l. rw (get_or-eq_default r 0 (ltb-false _ _ l)) (omega arith))

run_bytes : {b : List ℕ} {s : State} {ps : List Place} → Bytes b → Run b s ps → drop s.«at» b ≡ place_records ps ++ end_record (s.«count» + length ps)
unfolding place_records
run_bytes {b} {s} h (ends r i at same) =
    at ∙ sym (end_forth r i (bytes_of-part b r [] s.«at» h (at ∙ sym (append-nil r)))) ∙ ap end_record (same ∙ sym (add-zero s.«count»))
run_bytes {b} {s} h (goes {ps = ps} r rest i at few room ok run) =
    let count : s.«count» + 1 + length ps ≡ s.«count» + suc (length ps) = omega arith in
    let first = sym (place-forth r i (bytes_of-part b r rest s.«at» h at)) in
    let others = sym (behind b r rest s.«at» at) ∙ run_bytes h run in
    at
    ∙ (λ j. first j ++ others j)
    ∙ sym (append_assoc (place_record (place_of r)) (place_records ps) _)
    ∙ ap (λ (k : ℕ). place_record (place_of r) ++ place_records ps ++ end_record k) count

run_rules : {b : List ℕ} {s : State} {ps : List Place} → Run b s ps → all_hold (places_rules s.«sheet» s.«count» s.last_id ps) ≡ true
unfolding places_rules
run_rules (ends r i at same) = refl
run_rules {s = s} (goes {ps = ps} r rest i at few room ok run) =
    hold_together (place_rules s.«sheet» s.«count» s.last_id (place_of r)) (places_rules s.«sheet» (s.«count» + 1) (place_of r).«id» ps) ok (run_rules run)

-- what the rules of a sheet and its places say
pub list_parts : (s : Sheet) (ps : List Place) → all_hold (list_rules s ps) ≡ true →
    (all_hold (sheet_rules s) ≡ true) × (length ps ≤ most_places) × (all_hold (places_rules s 0 0 ps) ≡ true)
unfolding list_rules
list_parts s ps e =
    let both = both_hold (sheet_rules s) _ e in
    let few = leb (length ps) most_places in
    (both.0, leb-true _ _ (and_elim_left few _ both.1), and_elim_right few _ both.1)

-- ---- of the whole file

module _ {b : List ℕ} {room : ℕ} (w : Whole b room) where
  -- what is shown of what was read is shown of the reading
  of_reading : (P : Reading → Type 0) → P (accepted_reading (length w.places) (sheet_of w.bytes) w.places) → P (read_of b room)
  of_reading P = subst P (sym w.reads)

  behind_sheet : drop (0 + length w.bytes) b ≡ w.rest
  behind_sheet = behind b w.bytes w.rest 0 w.front

  whole_length : length b ≡ length (sheet_record (read_reply b room).sheet) + 37 * (read_reply b room).count + 5
  unfolding start_of
  whole_length =
      let l : length b ≡ length w.bytes + length w.rest = ap length w.front ∙ length-append w.bytes w.rest in
      let k : length w.rest ≡ 37 * length w.places + 5 = ap length (sym behind_sheet) ∙ run_length w.run in
      of_reading (λ X. length b ≡ length (sheet_record X.reply.sheet) + 37 * X.reply.count + 5)
      (omega (arith, sheet-as_long w.bytes w.is_sheet))

  whole-count : ((read_reply b room).count ≡ length (places_read b room)) × ((read_reply b room).count ≤ most_places) × ((read_reply b room).count ≤ room)
  unfolding start_of
  whole-count =
      let k = run_count w.run (omega arith) (omega arith) in
      of_reading (λ X. (X.reply.count ≡ length X.places) × (X.reply.count ≤ most_places) × (X.reply.count ≤ room))
      (refl, omega (arith, k.0), omega (arith, k.1))

  whole-bytes : Bytes b → file_of (read_reply b room).sheet (places_read b room) ≡ b
  unfolding start_of file_of
  whole-bytes h = of_reading (λ X. file_of X.reply.sheet X.places ≡ b)
      (let first = sheet-forth w.bytes w.is_sheet (bytes_of-part b w.bytes w.rest 0 h w.front) in
      let count = ap end_record (zero-add (length w.places)) in
      let others = ap (λ e. place_records w.places ++ e) (sym count) ∙ sym (run_bytes h w.run) ∙ behind_sheet in
      append_assoc (sheet_record (sheet_of w.bytes)) (place_records w.places) _ ∙ (λ j. first j ++ others j) ∙ sym w.front)

  whole-rules : all_hold (list_rules (read_reply b room).sheet (places_read b room)) ≡ true
  unfolding start_of list_rules
  whole-rules = of_reading (λ X. all_hold (list_rules X.reply.sheet X.places) ≡ true)
      (hold_together (sheet_rules (sheet_of w.bytes)) _ w.good
      (let k = run_count w.run (omega arith) (omega arith) in
      rw (le-leb (length w.places) most_places (omega (arith, k.0))) (run_rules w.run)))

  sheet-longest : length (sheet_record (read_reply b room).sheet) ≤ longest_sheet_record
  sheet-longest = of_reading (λ X. length (sheet_record X.reply.sheet) ≤ longest_sheet_record) (omega (arith, sheet-as_long w.bytes w.is_sheet, sheet-most w.bytes w.is_sheet))

pub file_length_lem : FileLength
file_length_lem b room e = whole_length (whole b room e)

pub count-is_places : CountIsPlaces
count-is_places b room e = whole-count (whole b room e)

pub read_is_good : ReadIsGood
read_is_good b room e = whole-rules (whole b room e)

pub longest_file_lem : LongestFile
longest_file_lem b room e =
    let w = whole b room e in
    let k = whole-count w in
    (omega (arith, whole_length w, k.1), omega (arith, whole_length w, k.1, sheet-longest w))

pub writes_back : WritesBack
writes_back b room h e = whole-bytes (whole b room e) h

pub writer_accepts : WriterAccepts
unfolding write_rules
writer_accepts b room size h e fits =
    let w = whole b room e in
    let same = whole-bytes w h in
    let s = (read_reply b room).sheet in
    let ps = places_read b room in
    all_hold-good Reply (write_rules s ps size) _ _
    (hold_together (list_rules s ps) _ (whole-rules w) (rw (le-leb (length (file_of s ps)) size (subst (λ (l : List ℕ). length l ≤ size) (sym same) fits)) refl))
    ∙ ap (λ (l : List ℕ). accepted (pos (length l) ∷ [])) same
