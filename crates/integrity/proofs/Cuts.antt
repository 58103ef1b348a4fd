-- A good file that is cut short is refused with 1, and the first bytes of anything decide. Assumes nothing.
use mathlib.Core.Path.{◌≡◌, refl, ap, ◌∙◌}
use mathlib.Core.Bool.{Bool, true, false, cond}
use mathlib.Core.List.{List, [], ◌∷◌, ◌++◌}
use Prim.Native.Nat.{ℕ, zero, suc, ◌+◌, ◌*◌, ◌≤◌, ◌<◌}
use native.Mathlib.Nat.{le_refl}
use native.Mathlib.Omega.{arith}
use lib.ListN.{length, get_or, take, drop, replicate, length-append, length-drop, length-replicate, take-append-drop, get_or-append}
use lib.Seq.{length-take-le, drop-append-le, take-append-le, take_all}
use lib.Dec.{ltb, leb}
use borrow.Author.Tests.{ltb-true, ltb-false, leb-true, leb-false, lt-ltb}
use Rattle.arith.proofs.Choose.{choose, by_test}
use Rattle.std.specs.Prelude.{Result, Ok, Err}
use Rattle.refusal.specs.declared.Refusal.{Refusal}
use Rattle.refusal.specs.declared.Refusal.TheVariants.{Cut, TrailingBytes}
use Rattle.refusal.specs.Rules.{all_hold}
use Rattle.refusal.proofs.Distinct.{no_number_zero}
use Rattle.refusal.proofs.InOrder.{by_outcome, by_outcomes}
use Rattle.sheet.specs.Sheets.{sheet_rules}
use Rattle.records.specs.declared.Record.{Record}
use Rattle.records.specs.declared.Record.TheVariants as records
use Rattle.place.specs.declared.Place.{Place}
use Rattle.atlas_file.specs.declared.State.{State}
use Rattle.records.specs.Records.{layout_of, body_of, IsRecord, sheet_of, place_of}
use Rattle.records.specs.Laws.{longest_sheet_record}
use Rattle.place.specs.Places.{place_rules}
use Rattle.atlas_file.specs.Steps.{StepAnswer, past_sheet, past_place, most_places, refused_step, refused_here, due_rules, end_rules, sheet_step, place_step, end_step, content_step, record_step, layout_step, step_of}
use Rattle.atlas_file.specs.Reading.{Reading, refused_reading, start_of, read_from, read_of}
use Rattle.integrity.specs.Integrity.{longest_file, CutRefused, FirstBytesDecide}
use Rattle.records.proofs.SheetRecords.{sheet-most}
use Rattle.records.proofs.PlaceRecords.{place-length, end_length}
use Rattle.integrity.proofs.Rooms.{room_enough}
use Rattle.atlas_file.proofs.Views.{is_whole, a_record, sheet-due, place-due, end_due}
use Rattle.atlas_file.proofs.Turns.{after_step, read_turn, record_turn}

-- Reading a file that starts with so many bytes and has more, and reading those alone. Both refuse the same; or these alone are cut; or the file has bytes past an end. In the last two cases there are no more of them than a file can have.
data Compared (bytes : ℕ) : Reading → Reading → Type 0 where
  agree : (why : Refusal) (offset : ℕ) → Compared bytes (refused_reading why offset) (refused_reading why offset)
  cut : (a : Reading) (offset : ℕ) → offset ≤ bytes → bytes ≤ longest_file → Compared bytes a (refused_reading Cut offset)
  past : (offset : ℕ) (a : Reading) → bytes ≤ longest_file → Compared bytes (refused_reading TrailingBytes offset) a

-- how far into a file a state stands: at its start before the sheet, then no further than the records read
record Early (s : State) : Type 0 where
  reach : s.«at» ≤ cond s.sheet_read (longest_sheet_record + 37 * s.«count») 0
  few : s.«count» ≤ most_places

-- a kind byte and a body of zeros
blank_record : (which : Record) (k : ℕ) → layout_of k ≡ Ok which → IsRecord which (k ∷ replicate (body_of which) 0)
blank_record which k e = record { layout = e; whole = ap suc (length-replicate (body_of which) 0) }

module _ (s : State) (early : Early s) where
  before : s.sheet_read ≡ false → s.«at» ≤ 0
  before e = rw e at early.reach

  behind : s.sheet_read ≡ true → s.«at» ≤ longest_sheet_record + 37 * s.«count»
  behind e = rw e at early.reach

  -- a record that is due ends within the longest file
  ends_within : (which : Record) (r : List ℕ) → IsRecord which r → all_hold (due_rules which s) ≡ true → s.«at» + length r ≤ longest_file
  ends_within records.Sheet r is due = omega (arith, before (sheet-due s due), sheet-most r is)
  ends_within records.Place r is due = omega (arith, behind (place-due s due).0, (place-due s due).1, place-length r is)
  ends_within records.End r is due = omega (arith, behind (end_due s due), early.few, end_length r is)

  at_within : s.«at» ≤ longest_file
  at_within = omega (arith, choose (λ k. k ≤ longest_sheet_record + 37 * s.«count») s.sheet_read _ 0 (λ _. le_refl _) (λ _. omega arith), early.reach, early.few)

  -- past a sheet or a place the state is early too
  early_sheet : (r : List ℕ) → IsRecord records.Sheet r → all_hold (due_rules records.Sheet s) ≡ true → Early (past_sheet s r)
  early_sheet r is due = record { reach = omega (arith, before (sheet-due s due), sheet-most r is); few = early.few }

  early_place : (r : List ℕ) → IsRecord records.Place r → all_hold (due_rules records.Place s) ≡ true → Early (past_place s r)
  early_place r is due =
      let d = place-due s due in
      record { reach = rw d.0 (omega (arith, behind d.0, place-length r is)); few = omega (arith, d.1) }

module _ (x y : List ℕ) (more : 0 < length y) where
  module _ (n m : ℕ) (s : State) (places : List Place) (early : Early s) (inside : s.«at» ≤ length x)
      (on : (t : State) (ps : List Place) → Early t → s.«at» < t.«at» → t.«at» ≤ length x → Compared (length x) (read_from n (x ++ y) t ps) (read_from m x t ps)) where
    -- two answers of the step, and what comes after them
    Steps : StepAnswer → StepAnswer → Type 0
    Steps a c = Compared (length x) (after_step n (x ++ y) s places a) (after_step m x s places c)

    refused : (why : Refusal) (offset : ℕ) → Steps (refused_step why offset) (refused_step why offset)
    unfolding Steps
    refused why offset = agree why offset

    short : (a : StepAnswer) → length x ≤ longest_file → Steps a (refused_here s Cut)
    unfolding Steps
    short a l = cut _ _ inside l

    past_end : (offset : ℕ) (a : StepAnswer) → length x ≤ longest_file → Steps (refused_step TrailingBytes offset) a
    unfolding Steps
    past_end offset a l = past _ _ l

    -- a record that is whole in x; in x ++ y there is more behind it
    contents : (which : Record) (r : List ℕ) (t : Bool) → IsRecord which r → all_hold (due_rules which s) ≡ true → s.«at» + length r ≤ length x →
        (t ≡ false → length x ≤ s.«at» + length r) → Steps (content_step which r true s) (content_step which r t s)
    unfolding content_step sheet_step place_step end_step
    contents records.Sheet r t is due there last =
        by_outcome StepAnswer (λ a. Steps a a) (sheet_rules (sheet_of r)) _ _
        (λ _. unfold Steps in on (past_sheet s r) places (early_sheet s early r is due) (omega (arith, is.whole)) there)
        (λ why. refused why _)
    contents records.Place r t is due there last =
        by_outcome StepAnswer (λ a. Steps a a) (place_rules s.«sheet» s.«count» s.last_id (place_of r)) _ _
        (λ _. unfold Steps in on (past_place s r) (places ++ (place_of r ∷ [])) (early_place s early r is due) (omega (arith, is.whole)) there)
        (λ why. refused why _)
    contents records.End r true is due there last = by_outcomes StepAnswer Steps (end_rules r s) _ _ _ _ (λ _. refused TrailingBytes _) (λ why. refused why s.«at»)
    contents records.End r false is due there last =
        by_outcomes StepAnswer Steps (end_rules r s) _ _ _ _ (λ _. past_end _ _ (omega (arith, last refl, ends_within s early records.End r is due))) (λ why. refused why s.«at»)

    one_record : (which : Record) → layout_of (get_or x s.«at» 0) ≡ Ok which →
        Steps (record_step which (drop s.«at» (x ++ y)) s) (record_step which (drop s.«at» x) s)
    one_record which e =
        let body = body_of which in
        let left = drop s.«at» x in
        let long = length-drop s.«at» x in
        let longer = length-append left y in
        rw (drop-append-le s.«at» x y inside, record_turn which (left ++ y) s, record_turn which left s)
        (by_outcomes StepAnswer Steps (due_rules which s) _ _ _ _ (λ due.
        choose (Steps _) (ltb body (length left)) _ _
        (λ whole.
        let h : body < length left = ltb-true _ _ whole in
        rw (lt-ltb body (length (left ++ y)) (omega arith), take-append-le (suc body) left y h, lt-ltb (suc body) (length (left ++ y)) (omega arith))
        (contents which (take (suc body) left) _ (a_record x s which whole e) due (omega (arith, is_whole x s which whole))
        (λ last. let k : length left ≤ suc body = ltb-false _ _ last in omega (arith, is_whole x s which whole))))
        (λ less.
        let h : length left ≤ body = ltb-false _ _ less in
        short _ (omega (arith, ends_within s early which _ (blank_record which _ e) due, length-replicate {A = ℕ} body 0))))
        (λ why. refused why _))

    layouts : (l : Result Record Refusal) → layout_of (get_or x s.«at» 0) ≡ l → Steps (layout_step l (drop s.«at» (x ++ y)) s) (layout_step l (drop s.«at» x) s)
    layouts (Ok which) e = one_record which e
    layouts (Err why) e = refused why _

    steps : Steps (step_of (x ++ y) s) (step_of x s)
    unfolding step_of
    steps =
        choose (Steps (step_of (x ++ y) s)) (ltb s.«at» (length x)) _ _
        (λ there.
        let h : s.«at» < length x = ltb-true _ _ there in
        rw (lt-ltb s.«at» (length (x ++ y)) (omega (arith, length-append x y)), get_or-append x y 0 s.«at» h) (layouts _ refl))
        (λ gone. short _ (let h : length x ≤ s.«at» = ltb-false _ _ gone in omega (arith, at_within s early)))

    turn : Compared (length x) (read_from (suc n) (x ++ y) s places) (read_from (suc m) x s places)
    unfolding Steps
    turn = rw (read_turn n (x ++ y) s places, read_turn m x s places) steps

  reads : (n m : ℕ) (s : State) (places : List Place) → Early s → s.«at» ≤ length x → length (x ++ y) < s.«at» + n → length x < s.«at» + m →
      Compared (length x) (read_from n (x ++ y) s places) (read_from m x s places)
  reads zero m s places early inside h k = absurd (let w : ⊥ = omega (arith, length-append x y) in w)
  reads (suc n) zero s places early inside h k = absurd (let w : ⊥ = omega arith in w)
  reads (suc n) (suc m) s places early inside h k =
      turn n m s places early inside (λ t ps e f g. reads n m t ps e g (omega arith) (omega arith))

  compared : (room : ℕ) → Compared (length x) (read_of (x ++ y) room) (read_of x room)
  unfolding read_of start_of
  compared room = reads (suc (length (x ++ y))) (suc (length x)) (start_of room) [] (record { reach = omega arith; few = omega arith }) (omega arith) (omega arith) (omega arith)

-- where the file is accepted, its first bytes alone are cut; where they are more than a file can have, they agree with it
accepted-cut : {bytes : ℕ} {a c : Reading} → Compared bytes a c → a.reply.number ≡ 0 → (offset : ℕ) × (offset ≤ bytes) × (c ≡ refused_reading Cut offset)
accepted-cut (agree why offset) e = absurd (no_number_zero why e)
accepted-cut (cut a offset l h) e = (offset, l, refl)
accepted-cut (past offset a h) e = absurd (no_number_zero TrailingBytes e)

pub cut_refused : CutRefused
cut_refused b room other k e fits h =
    let good : (read_of b other).reply.number ≡ 0 = rw (room_enough b room other e fits) e in
    let long : length (take k b) ≡ k = length-take-le k b (omega arith) in
    let r = accepted-cut (compared (take k b) (drop k b) (omega (arith, length-drop k b)) other) (rw (take-append-drop k b) good) in
    (r.0, omega (arith, r.1), r.2)

long_agree : {bytes : ℕ} {a c : Reading} → Compared bytes a c → longest_file < bytes → c ≡ a
long_agree (agree why offset) h = refl
long_agree (cut a offset l k) h = absurd (let w : ⊥ = omega arith in w)
long_agree (past offset a k) h = absurd (let w : ⊥ = omega arith in w)

-- so it is for any number of bytes that is larger than the longest file
pub first_bytes_decide : FirstBytesDecide
first_bytes_decide b room k h =
    by_test (leb (length b) k)
    (λ e. ap (λ (l : List ℕ). read_of l room) (take_all k b (leb-true _ _ e)))
    (λ e.
    let more : k < length b = leb-false _ _ e in
    long_agree (compared (take k b) (drop k b) (omega (arith, length-drop k b)) room) (omega (arith, length-take-le k b (omega arith)))
    ∙ ap (λ (l : List ℕ). read_of l room) (take-append-drop k b))
