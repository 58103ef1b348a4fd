-- Where the places of an accepted file stand, and that a refused one has none. Assumes nothing.
use mathlib.Core.Path.{◌≡◌, refl, sym, ap, subst, ◌∙◌}
use mathlib.Core.List.{List, []}
use Prim.Native.Nat.{ℕ, zero, suc, ◌+◌, ◌*◌, ◌<◌}
use native.Mathlib.Omega.{arith}
use lib.ListN.{length, get_or, take, drop}
use lib.Seq.{take_at}
use Rattle.place.specs.declared.Place.{Place}
use Rattle.place.specs.Places.{blank_place}
use Rattle.records.specs.declared.Record.TheVariants as records
use Rattle.records.specs.Records.{IsRecord, place_of, sheet_of, sheet_record}
use Rattle.records.proofs.PlaceRecords.{place-length}
use Rattle.records.proofs.SheetRecords.{sheet-as_long}
use Rattle.atlas_file.specs.declared.State.{State}
use Rattle.atlas_file.specs.Steps.{StepAnswer}
use Rattle.atlas_file.specs.Reading.{Reading, start_of, read_from, read_of}
use Rattle.atlas_file.proofs.Views.{Stepped, refused, sheet, place, end, view}
use Rattle.atlas_file.proofs.Turns.{after_step}
use Rattle.integrity.specs.Integrity.{StandsAt, PlaceStands, RefusedHasNone}
use Rattle.integrity.proofs.RunReads.{Run, ends, goes}
use Rattle.integrity.proofs.Accepted.{whole}

-- in a run of records the k-th place stands 37 k bytes on
run_place : {b : List ℕ} {s : State} {ps : List Place} → Run b s ps → (k : ℕ) → k < length ps → StandsAt b (s.«at» + 37 * k) (get_or ps k blank_place)
run_place (ends r i at same) k h = absurd (let w : ⊥ = omega arith in w)
run_place {b} {s} (goes r rest i at few room ok run) zero h =
    let front : take 37 (drop (s.«at» + 37 * 0) b) ≡ r = ap (λ (n : ℕ). take 37 (drop n b)) (let w : s.«at» + 37 * 0 ≡ s.«at» = omega arith in w) ∙ ap (take 37) at ∙ take_at r rest 37 (place-length r i) in
    (subst (IsRecord records.Place) (sym front) i, ap place_of front)
run_place {b} {s} (goes {ps = ps} r rest i at few room ok run) (suc k) h =
    let behind : s.«at» + length r + 37 * k ≡ s.«at» + 37 * suc k = omega (arith, place-length r i) in
    subst (λ (n : ℕ). StandsAt b n (get_or ps k blank_place)) behind (run_place run k (omega arith))

-- in an accepted file
pub place-stands : PlaceStands
unfolding start_of
place-stands b room k e h =
    let w = whole b room e in
    let from : 0 + length w.bytes ≡ length (sheet_record (sheet_of w.bytes)) = omega (arith, sheet-as_long w.bytes w.is_sheet) in
    let n : k < length w.places = subst (λ (X : Reading). k < X.reply.count) w.reads h in
    subst (λ (X : Reading). StandsAt b (length (sheet_record X.reply.sheet) + 37 * k) (get_or X.places k blank_place)) (sym w.reads)
    (subst (λ (n : ℕ). StandsAt b (n + 37 * k) (get_or w.places k blank_place)) from (run_place w.run k n))

-- a refused file has no places
turn_places : (n : ℕ) (b : List ℕ) (s : State) (places : List Place) {r : StepAnswer} → Stepped b s r →
    ((t : State) (qs : List Place) → ((read_from n b t qs).reply.number ≡ 0 → ⊥) → (read_from n b t qs).places ≡ []) →
    ((after_step n b s places r).reply.number ≡ 0 → ⊥) → (after_step n b s places r).places ≡ []
turn_places n b s places (refused other offset) on e = refl
turn_places n b s places (sheet r rest i at unread ok) on e = on _ _ e
turn_places n b s places (place r rest i at read few room ok) on e = on _ _ e
turn_places n b s places (end r i at read same) on e = absurd (e refl)

none_from : (n : ℕ) (b : List ℕ) (s : State) (places : List Place) → ((read_from n b s places).reply.number ≡ 0 → ⊥) → (read_from n b s places).places ≡ []
unfolding read_from
none_from zero b s places e = refl
none_from (suc n) b s places e = turn_places n b s places (view b s) (none_from n b) e

pub refused-has_none : RefusedHasNone
unfolding read_of
refused-has_none b room e = none_from (suc (length b)) b (start_of room) [] e
