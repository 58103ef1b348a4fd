-- Bytes as a sheet: what is taken passes its checks, and the record of a good sheet is taken. Assumes nothing.
use Prim.Native.Nat.{ℕ, ◌+◌, ◌/◌, ◌≤◌}
use native.Mathlib.Nat.{zero-add}
use mathlib.Core.Bool.{Bool, true, false, true≢false}
use mathlib.Core.List.{List, [], append-nil}
use mathlib.Core.Path.{◌≡◌, refl, sym, ap, ◌∙◌}
use borrow.Author.Tests.{eq-eqb, leb-true}
use lib.ListN.{length}
use Rattle.std.specs.Prelude.{Result, Ok, Err}
use Rattle.refusal.specs.declared.Refusal.{Refusal}
use Rattle.refusal.proofs.InOrder.{by_outcome, each_holds}
use Rattle.sheet.specs.declared.Sheet.{Sheet}
use Rattle.sheet.specs.Sheets.{passes_checks}
use Rattle.records.specs.declared.Record.TheVariants as records
use Rattle.records.specs.Records.{IsRecord, sheet_of, sheet_record}
use Rattle.records.proofs.SheetRecords.{sheet-kind, sheet-back, sheet-decoded}
use Rattle.atlas_file.specs.declared.Found.{Found}
use Rattle.atlas_file.specs.declared.Found.TheVariants as found
use Rattle.atlas_file.specs.declared.State.{State}
use Rattle.atlas_file.specs.Steps.{StepAnswer, most_places, step_of}
use Rattle.atlas_file.specs.Reading.{Reading, start_of}
use Rattle.atlas_file.proofs.Moves.{sheet-moves, place-moves, end_is_last}
use Rattle.integrity.proofs.Accepted.{whole, bytes_of-part}
use Rattle.integrity.proofs.RunReads.{sheet-reads}
use Rattle.atlas_c.specs.Given.{file_reply, first_sheet, first_answer, sheet_in, each_rules, sheet_for_each}
use Rattle.atlas_c.specs.Laws.{SheetTaken, FileSheetTaken, TakenPasses, NoPlaceFirst, NoEndFirst}

-- whether the checks of an answer's sheet hold; of a refusal, yes
abbrev passes : (Result Sheet Refusal) → Bool
passes (Ok s) = passes_checks s
passes (Err why) = true

first_passes : (b : List ℕ) (f : Found) (next : State) → step_of b (start_of 0) ≡ Ok (record { «found» = f; «next» = next }) → (whole : Bool) → passes (first_sheet f whole) ≡ true
unfolding first_sheet
first_passes b (found.Sheet s) next e true = (sheet-moves b (start_of 0) next s e).5
first_passes b (found.Sheet s) next e false = refl
first_passes b (found.Place p) next e whole = refl
first_passes b (found.End count) next e whole = refl

answer_passes : (b : List ℕ) (a : StepAnswer) → step_of b (start_of 0) ≡ a → passes (first_answer a (length b)) ≡ true
answer_passes b (Ok advance) e = first_passes b advance.«found» advance.«next» e _
answer_passes b (Err why) e = refl

pub taken-passes : TakenPasses
unfolding sheet_in
taken-passes b s e = ap passes (sym e) ∙ answer_passes b _ refl

-- where pairs are answered, there is room for the answers
pub each_room : (a : Result Sheet Refusal) (numbers size : ℕ) (s : Sheet) → sheet_for_each a numbers size ≡ Ok s → numbers / 2 ≤ size / 3
unfolding each_rules
each_room (Ok t) numbers size s =
    by_outcome (Result Sheet Refusal) (λ (a : Result Sheet Refusal). a ≡ Ok s → numbers / 2 ≤ size / 3) (each_rules numbers size) (Ok t) Err
    (λ h e. leb-true _ _ (each_holds (each_rules numbers size) h).1.0) (λ why e. cc)
each_room (Err why) numbers size s = λ e. cc

-- one whole record of a good sheet is taken as it is
pub record_taken : (r : List ℕ) → IsRecord records.Sheet r → passes_checks (sheet_of r) ≡ true → sheet_in r ≡ Ok (sheet_of r)
unfolding start_of sheet_in first_sheet
record_taken r i ok = rw (sheet-reads r (start_of 0) r [] i (sym (append-nil r)) refl ok, eq-eqb (0 + length r) (length r) (zero-add (length r)))

pub sheet-taken : SheetTaken
sheet-taken s i ok = let back = sheet-back s i in record_taken (sheet_record s) (sheet-kind s) (rw back ok) ∙ ap Ok back

pub file_sheet_taken : FileSheetTaken
file_sheet_taken b bytes e =
    let w = whole b most_places e in
    let is : (file_reply b).sheet ≡ sheet_of w.bytes = ap (λ (X : Reading). X.reply.sheet) w.reads in
    rw is (sheet-taken (sheet_of w.bytes) (sheet-decoded w.bytes w.is_sheet (bytes_of-part b w.bytes w.rest 0 bytes w.front)) w.good)

pub no_place_first : NoPlaceFirst
unfolding start_of
no_place_first b next p e = true≢false (sym (place-moves b (start_of 0) next p e).4)

pub no_end_first : NoEndFirst
unfolding start_of
no_end_first b next count e = true≢false (sym (end_is_last b (start_of 0) next count e).3)
