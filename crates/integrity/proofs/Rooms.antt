-- Room for all the places gives the same reading, and with less the first place that has none is refused. Assumes nothing.
use mathlib.Core.Path.{◌≡◌, refl, sym, ap, subst, ◌∙◌}
use mathlib.Core.Bool.{true}
use mathlib.Core.List.{List, [], ◌∷◌, ◌++◌}
use Prim.Native.Nat.{ℕ, zero, suc, ◌+◌, ◌-◌, ◌*◌, ◌≤◌, ◌<◌}
use native.Mathlib.Omega.{arith}
use lib.ListN.{length}
use lib.Dec.{ltb}
use borrow.Author.Tests.{ltb-true, ltb-false}
use Rattle.arith.proofs.Choose.{by_test}
use Rattle.refusal.specs.declared.Refusal.TheVariants.{NoRoom}
use Rattle.place.specs.declared.Place.{Place}
use Rattle.atlas_file.specs.declared.State.{State}
use Rattle.records.specs.Records.{sheet_of, sheet_record, place_of}
use Rattle.atlas_file.specs.Steps.{past_place}
use Rattle.atlas_file.specs.Reading.{Reading, refused_reading, start_of, read_from}
use Rattle.integrity.specs.Integrity.{RoomEnough, RoomShort}
use Rattle.records.proofs.SheetRecords.{sheet-as_long}
use Rattle.records.proofs.PlaceRecords.{place-length}
use Rattle.atlas_file.proofs.Turns.{after_step, read_turn}
use Rattle.integrity.proofs.Accepted.{whole}
use Rattle.integrity.proofs.RunReads.{Run, ends, goes, sheet-first, place-reads, full_refuses, run_short, file_reads}

-- the same run with other room, for one state and another that differ in it alone
abbrev with_room : State → ℕ → State
with_room s room = record { «at» = s.«at»; sheet_read = s.sheet_read; «sheet» = s.«sheet»; «count» = s.«count»; last_id = s.last_id; «room» = room }

other-room : {b : List ℕ} {s : State} {ps : List Place} (room : ℕ) → Run b s ps → s.«count» + length ps ≤ room → Run b (with_room s room) ps
other-room room (ends r i at same) h = ends r i at same
other-room {s = s} room (goes r rest i at few _ ok run) h =
    let fits : s.«count» < room = omega arith in
    goes {s = with_room s room} r rest i at few fits ok (other-room room run (omega arith))

pub room_enough : RoomEnough
unfolding start_of
room_enough b room other e h =
    let w = whole b room e in
    let k : length w.places ≤ other = subst (λ (X : Reading). X.reply.count ≤ other) w.reads h in
    let run = other-room other w.run (omega arith) in
    file_reads b other w.bytes w.rest w.places w.is_sheet w.front w.good run ∙ sym w.reads

-- with less room, reading comes to the first place that has none
Short : (n : ℕ) (b : List ℕ) (s : State) (other : ℕ) (places : List Place) → Type 0
Short n b s other places = read_from n b (with_room s other) places ≡ refused_reading NoRoom (s.«at» + 37 * (other - s.«count»))

no_room : {b : List ℕ} {s : State} {ps : List Place} (n other : ℕ) (places : List Place) → Run b s ps → s.sheet_read ≡ true →
    s.«count» ≤ other → other < s.«count» + length ps → length ps < n → Short n b s other places
unfolding Short
no_room zero other places run read m f h = absurd (let w : ⊥ = omega arith in w)
no_room (suc n) other places (ends r i at same) read m f h = absurd (let w : ⊥ = omega arith in w)
no_room {b} {s} (suc n) other places (goes r rest i at few _ ok run) read m f h =
    let t = with_room s other in
    read_turn n b t places
    ∙ by_test (ltb s.«count» other)
    (λ e.
    let fits : s.«count» < other = ltb-true _ _ e in
    let offset : s.«at» + length r + 37 * (other - (s.«count» + 1)) ≡ s.«at» + 37 * (other - s.«count») = omega (arith, place-length r i) in
    ap (after_step n b t places) (place-reads b t r rest i at read few fits ok)
    ∙ no_room {s = past_place s r} n other (places ++ (place_of r ∷ [])) run read (omega arith) (omega arith) (omega arith)
    ∙ ap (refused_reading NoRoom) offset)
    (λ e.
    let full : other ≤ s.«count» = ltb-false _ _ e in
    let offset : s.«at» ≡ s.«at» + 37 * (other - s.«count») = omega arith in
    ap (after_step n b t places) (full_refuses b t r rest i at read few full) ∙ ap (refused_reading NoRoom) offset)

pub room_short : RoomShort
unfolding Short start_of
room_short b room other e h =
    let w = whole b room e in
    let k : other < length w.places = subst (λ (X : Reading). other < X.reply.count) w.reads h in
    let offset : 0 + length w.bytes + 37 * (other - 0) ≡ length (sheet_record (sheet_of w.bytes)) + 37 * other = omega (arith, sheet-as_long w.bytes w.is_sheet) in
    sheet-first b other w.bytes w.rest w.is_sheet w.front w.good
    ∙ no_room (length b) other [] w.run refl (omega arith) (omega arith) (run_short w.run)
    ∙ subst (λ (X : Reading). refused_reading NoRoom (0 + length w.bytes + 37 * (other - 0)) ≡ refused_reading NoRoom (length (sheet_record X.reply.sheet) + 37 * other)) (sym w.reads) (ap (refused_reading NoRoom) offset)
