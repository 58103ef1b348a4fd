-- What was written is read back. Assumes nothing.
use mathlib.Core.Path.{◌≡◌, sym, ap, subst, ◌∙◌}
use mathlib.Core.Bool.{true}
use mathlib.Core.List.{List, [], ◌∷◌, ◌++◌, append_assoc}
use Prim.Native.Nat.{ℕ, suc, ◌+◌, ◌≤◌}
use native.Mathlib.Nat.{add-zero, zero-add}
use native.Mathlib.Omega.{arith}
use lib.ListN.{length, drop}
use Rattle.refusal.specs.Rules.{all_hold}
use Rattle.refusal.proofs.InOrder.{both_hold}
use Rattle.sheet.specs.declared.Sheet.{Sheet}
use Rattle.sheet.specs.Sheets.{sheet_rules}
use Rattle.place.specs.declared.Place.{Place}
use Rattle.atlas_file.specs.declared.State.{State}
use Rattle.records.specs.Records.{sheet_of, sheet_record, place_of, place_record, end_record}
use Rattle.place.specs.Places.{place_rules}
use Rattle.atlas_file.specs.Steps.{most_places}
use Rattle.atlas_file.specs.Reading.{accepted_reading, start_of}
use Rattle.atlas_file.specs.Writing.{place_records, file_of, places_rules}
use Rattle.integrity.specs.Integrity.{ArePlaces, ReadsBack}
use Rattle.records.proofs.SheetRecords.{sheet-kind, sheet-back}
use Rattle.records.proofs.PlaceRecords.{place-kind, place-back, end_kind, end_back}
use Rattle.atlas_file.proofs.Moves.{behind}
use Rattle.integrity.proofs.Accepted.{list_parts}
use Rattle.integrity.proofs.RunReads.{Run, ends, goes, file_reads}

-- the records of places that the writer does not refuse are such a run
written : (s : Sheet) (room : ℕ) (b : List ℕ) (at count last : ℕ) (ps : List Place) → ArePlaces ps → all_hold (places_rules s count last ps) ≡ true →
    count + length ps ≤ most_places → count + length ps ≤ room → drop at b ≡ place_records ps ++ end_record (count + length ps) →
    Run b (record { «at» = at; sheet_read = true; «sheet» = s; «count» = count; last_id = last; «room» = room }) ps
unfolding place_records places_rules
written s room b at count last [] _ rules m f e =
    ends (end_record count) (end_kind count) (e ∙ ap end_record (add-zero count)) (end_back count (omega arith))
written s room b at count last (p ∷ ps) (is, are) rules m f e =
    let both = both_hold (place_rules s count last p) (places_rules s (count + 1) p.«id» ps) rules in
    let rest : List ℕ = place_records ps ++ end_record (count + 1 + length ps) in
    let total : count + suc (length ps) ≡ count + 1 + length ps = omega arith in
    let here : drop at b ≡ place_record p ++ rest = e ∙ append_assoc (place_record p) (place_records ps) _ ∙ ap (λ (k : ℕ). place_record p ++ (place_records ps ++ end_record k)) total in
    let same : place_of (place_record p) ≡ p = place-back p is in
    let first = subst (λ (q : Place). all_hold (place_rules s count last q) ≡ true) (sym same) both.0 in
    let others = subst (λ (q : Place). all_hold (places_rules s (count + 1) q.«id» ps) ≡ true) (sym same) both.1 in
    let now : State = record { «at» = at; sheet_read = true; «sheet» = s; «count» = count; last_id = last; «room» = room } in
    let run = written s room b (at + length (place_record p)) (count + 1) (place_of (place_record p)).«id» ps are others (omega arith) (omega arith) (behind b (place_record p) rest at here) in
    subst (λ (q : Place). Run b now (q ∷ ps)) same (goes {s = now} (place_record p) rest (place-kind p is.name) here (omega arith) (omega arith) first run)

pub reads_back : ReadsBack
unfolding start_of file_of
reads_back s ps room is are rules h =
    let parts = list_parts s ps rules in
    let r : List ℕ = sheet_record s in
    let rest : List ℕ = place_records ps ++ end_record (length ps) in
    let same : sheet_of r ≡ s = sheet-back s is in
    let front : file_of s ps ≡ r ++ rest = append_assoc r (place_records ps) (end_record (length ps)) in
    let good = subst (λ (h : Sheet). all_hold (sheet_rules h) ≡ true) (sym same) parts.0 in
    let ok = subst (λ (h : Sheet). all_hold (places_rules h 0 0 ps) ≡ true) (sym same) parts.2 in
    let behind_sheet = behind (file_of s ps) r rest 0 front ∙ ap (λ (k : ℕ). place_records ps ++ end_record k) (sym (zero-add (length ps))) in
    let run = written (sheet_of r) room (file_of s ps) (0 + length r) 0 0 ps are ok (omega (arith, parts.1)) (omega arith) behind_sheet in
    file_reads (file_of s ps) room r rest ps (sheet-kind s) front good run ∙ ap (λ (h : Sheet). accepted_reading (length ps) h ps) same
