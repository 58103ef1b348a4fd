-- What a step can be: refused, with the state as it was; a sheet or a place, and the state past its record; or the end. Assumes nothing.
use mathlib.Core.Path.{◌≡◌, refl, sym, ap, ◌∙◌}
use mathlib.Core.Bool.{Bool, true, false}
use mathlib.Core.List.{List, [], ◌∷◌, ◌++◌}
use mathlib.Mathlib.Data.Bool.Basic.{and_elim_left, and_elim_right}
use Prim.Native.Nat.{ℕ, suc, ◌+◌, ◌≤◌, ◌<◌}
use native.Mathlib.Nat.{add-zero}
use native.Mathlib.Omega.{arith}
use lib.ListN.{length, get_or, take, drop, take-append-drop, get_or-append}
use lib.Seq.{length-take-le, get_or-drop, take_all}
use lib.Dec.{ltb}
use borrow.Author.Tests.{ltb-true, ltb-false, eqb-true, not-true}
use Rattle.std.specs.Prelude.{Result, Ok, Err}
use Rattle.refusal.specs.declared.Refusal.{Refusal}
use Rattle.refusal.specs.declared.Refusal.TheVariants.{Cut}
use Rattle.refusal.specs.Rules.{◌else-refuse◌, all_hold}
use Rattle.refusal.proofs.InOrder.{each_holds, by_outcome, both_hold}
use Rattle.sheet.specs.Sheets.{sheet_rules}
use Rattle.records.specs.declared.Record.{Record}
use Rattle.records.specs.declared.Record.TheVariants as records
use Rattle.records.specs.Records.{layout_of, body_of, IsRecord, sheet_of, place_of, end_of}
use Rattle.atlas_file.specs.declared.State.{State}
use Rattle.atlas_file.specs.declared.Found.TheVariants as found
use Rattle.std.specs.Prelude.{Ok}
use Rattle.place.specs.Places.{place_rules}
use Rattle.atlas_file.specs.Steps.{StepAnswer, most_places, past_sheet, past_place, refused_step, due_rules, end_rules, last_rules, sheet_step, place_step, end_step, content_step, record_step, layout_step, step_of}

pub data Stepped (b : List ℕ) (s : State) : StepAnswer → Type 0 where
  refused : (why : Refusal) (offset : ℕ) → Stepped b s (refused_step why offset)
  sheet : (r rest : List ℕ) → IsRecord records.Sheet r → drop s.«at» b ≡ r ++ rest → s.sheet_read ≡ false → all_hold (sheet_rules (sheet_of r)) ≡ true →
      Stepped b s (Ok (record { «found» = found.Sheet (sheet_of r); «next» = past_sheet s r }))
  place : (r rest : List ℕ) → IsRecord records.Place r → drop s.«at» b ≡ r ++ rest → s.sheet_read ≡ true → s.«count» < most_places → s.«count» < s.«room» →
      all_hold (place_rules s.«sheet» s.«count» s.last_id (place_of r)) ≡ true →
      Stepped b s (Ok (record { «found» = found.Place (place_of r); «next» = past_place s r }))
  end : (r : List ℕ) → IsRecord records.End r → drop s.«at» b ≡ r → s.sheet_read ≡ true → end_of r ≡ s.«count» →
      Stepped b s (Ok (record { «found» = found.End (end_of r); «next» = s }))

-- what it says that a record is due: of a sheet, that none is read; of a place, that the sheet is read, and there is room; of the end, that the sheet is read
pub sheet-due : (s : State) → all_hold (due_rules records.Sheet s) ≡ true → s.sheet_read ≡ false
unfolding due_rules
sheet-due s due = not-true _ (each_holds (due_rules records.Sheet s) due).0

pub place-due : (s : State) → all_hold (due_rules records.Place s) ≡ true → (s.sheet_read ≡ true) × (s.«count» < most_places) × (s.«count» < s.«room»)
unfolding due_rules
place-due s due =
    let h = each_holds (due_rules records.Place s) due in
    let few = ltb s.«count» most_places in
    (h.0, ltb-true _ _ (and_elim_left few _ h.1.0), ltb-true _ _ (and_elim_right few _ h.1.0))

pub end_due : (s : State) → all_hold (due_rules records.End s) ≡ true → s.sheet_read ≡ true
unfolding due_rules
end_due s due = (each_holds (due_rules records.End s) due).0

-- a byte of a part of the file
pub byte_at : (b r rest : List ℕ) (at i : ℕ) → drop at b ≡ r ++ rest → i < length r → get_or b (at + i) 0 ≡ get_or r i 0
byte_at b r rest at i e h = sym (get_or-drop at b i 0) ∙ ap (λ (l : List ℕ). get_or l i 0) e ∙ get_or-append r rest 0 i h

pub first_byte : (b r rest : List ℕ) (at : ℕ) → drop at b ≡ r ++ rest → 0 < length r → get_or b at 0 ≡ get_or r 0 0
first_byte b r rest at e h = ap (λ (k : ℕ). get_or b k 0) (sym (add-zero at)) ∙ byte_at b r rest at 0 e h

module _ (b : List ℕ) (s : State) where
  -- the bytes from the state on, and the record at their front
  abbrev left : List ℕ
  left = drop s.«at» b

  abbrev part : Record → List ℕ
  part which = take (suc (body_of which)) left

  abbrev more : Record → Bool
  more which = ltb (suc (body_of which)) (length left)

  module _ (which : Record) where
    splits : left ≡ part which ++ drop (suc (body_of which)) left
    splits = sym (take-append-drop (suc (body_of which)) left)

    module _ (whole : ltb (body_of which) (length left) ≡ true) where
      pub is_whole : length (part which) ≡ suc (body_of which)
      is_whole = length-take-le (suc (body_of which)) left (let h : body_of which < length left = ltb-true _ _ whole in omega arith)

      pub a_record : layout_of (get_or b s.«at» 0) ≡ Ok which → IsRecord which (part which)
      a_record e = record { layout = ap layout_of (sym (first_byte b (part which) _ s.«at» splits (omega (arith, is_whole)))) ∙ e; whole = is_whole }

  content_view : (which : Record) → ltb (body_of which) (length left) ≡ true → layout_of (get_or b s.«at» 0) ≡ Ok which → all_hold (due_rules which s) ≡ true →
      Stepped b s (content_step which (part which) (more which) s)
  unfolding content_step due_rules sheet_step place_step end_step
  content_view records.Sheet whole e due =
      let r = part records.Sheet in
      by_outcome StepAnswer (Stepped b s) (sheet_rules (sheet_of r)) _ _
      (λ h. sheet r _ (a_record records.Sheet whole e) (splits records.Sheet) (sheet-due s due) h)
      (λ why. refused why _)
  content_view records.Place whole e due =
      let r = part records.Place in
      let d = place-due s due in
      by_outcome StepAnswer (Stepped b s) (place_rules s.«sheet» s.«count» s.last_id (place_of r)) _ _
      (λ h. place r _ (a_record records.Place whole e) (splits records.Place) d.0 d.1 d.2 h)
      (λ why. refused why _)
  content_view records.End whole e due =
      let r = part records.End in
      by_outcome StepAnswer (Stepped b s) (end_rules r s) _ _
      (λ same. by_outcome StepAnswer (Stepped b s) (last_rules (more records.End)) _ _
      (λ last.
      let short : length left ≤ 5 = ltb-false _ _ (not-true _ (each_holds (last_rules (more records.End)) last).0) in
      end r (a_record records.End whole e) (sym (take_all 5 left short)) (end_due s due) (eqb-true _ _ (each_holds (end_rules r s) same).0))
      (λ why. refused why (s.«at» + length r)))
      (λ why. refused why s.«at»)

  record_view : (which : Record) → layout_of (get_or b s.«at» 0) ≡ Ok which → Stepped b s (record_step which left s)
  unfolding record_step
  record_view which e =
      by_outcome StepAnswer (Stepped b s) (due_rules which s ++ ((ltb (body_of which) (length left) else-refuse _) ∷ [])) _ _
      (λ h. let hs = both_hold (due_rules which s) _ h in content_view which (each_holds ((_ else-refuse Cut) ∷ []) hs.1).0 e hs.0)
      (λ why. refused why _)

  layout-view : (l : Result Record Refusal) → layout_of (get_or b s.«at» 0) ≡ l → Stepped b s (layout_step l left s)
  layout-view (Ok which) e = record_view which e
  layout-view (Err why) e = refused why _

pub view : (b : List ℕ) (s : State) → Stepped b s (step_of b s)
unfolding step_of
view b s =
    by_outcome StepAnswer (Stepped b s) ((ltb s.«at» (length b) else-refuse Cut) ∷ []) _ _ (λ _. layout-view b s _ refl) (λ why. refused why s.«at»)
