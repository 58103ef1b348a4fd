-- The laws of a place's record and of the end record. Assumes nothing.
use mathlib.Core.Path.{◌≡◌, refl, sym}
use mathlib.Core.List.{[]}
use native.Mathlib.Omega.{arith}
use lib.ListN.{drop, length-drop, length-take, drop_of_length-le}
use lib.Seq.{take_all}
use Rattle.place.specs.declared.Place.{Place}
use Rattle.little_endian.specs.Numbers.{i32_at, u32_bytes, numbers_bytes}
use Rattle.records.specs.Records.{layout_of, place_of, place_record, end_of, end_record}
use Rattle.records.specs.Laws.{PlaceKind, PlaceBack, PlaceForth, PlaceLength, PlaceDecoded, EndKind, EndBack, EndForth, EndLength}
use Rattle.little_endian.proofs.NumberLaws.{u32_back, i32_back, u32_below, i32_below, u32_then, i32_then}
use Rattle.records.proofs.KindBytes.{kind_byte, whole-record}

-- two places are the same where their fields are
pub place_is : {s t : Place} →
    s.«id» ≡ t.«id» →
    s.«latitude» ≡ t.«latitude» →
    s.«longitude» ≡ t.«longitude» →
    s.«x» ≡ t.«x» →
    s.«y» ≡ t.«y» →
    s.«name» ≡ t.«name» →
    s ≡ t
place_is p1 p2 p3 p4 p5 p6 = λ i. record { «id» = p1 i; «latitude» = p2 i; «longitude» = p3 i; «x» = p4 i; «y» = p5 i; «name» = p6 i }

pub place-kind : PlaceKind
unfolding layout_of place_record numbers_bytes u32_bytes
place-kind p e = record { layout = refl; whole = omega arith }

pub place-back : PlaceBack
unfolding place_of place_record numbers_bytes i32_at u32_bytes
place-back p h =
    place_is
    (u32_back _ [] h.id)
    (i32_back _ [] h.latitude)
    (i32_back _ [] h.longitude)
    (i32_back _ [] h.x)
    (i32_back _ [] h.y)
    (take_all 16 p.«name» (omega (arith, h.name)))

pub place-length : PlaceLength
place-length r k = k.whole

pub place-forth : PlaceForth
unfolding place_of place_record numbers_bytes u32_bytes
place-forth r k b =
    let n = k.whole in
    whole-record 2 (kind_byte k) (omega arith)
    (u32_then r b 1 (omega arith)
    (i32_then r b 5 (omega arith)
    (i32_then r b 9 (omega arith)
    (i32_then r b 13 (omega arith)
    (i32_then r b 17 (omega arith)
    (take_all 16 (drop 21 r) (simp length-drop (omega arith))))))))

pub place-decoded : PlaceDecoded
unfolding place_of
place-decoded r k b = record {
  id = u32_below r 1 b;
  latitude = i32_below r 5 b;
  longitude = i32_below r 9 b;
  x = i32_below r 13 b;
  y = i32_below r 17 b;
  name = let n = k.whole in simp (length-take, length-drop) (omega arith);
}

pub end_kind : EndKind
unfolding layout_of end_record numbers_bytes u32_bytes
end_kind count = record { layout = refl; whole = refl }

pub end_back : EndBack
unfolding end_of end_record numbers_bytes u32_bytes
end_back count h = u32_back count [] h

pub end_length : EndLength
end_length r k = k.whole

pub end_forth : EndForth
unfolding end_of end_record numbers_bytes
end_forth r k b =
    let n = k.whole in
    whole-record 3 (kind_byte k) (omega arith) (u32_then r b 1 (omega arith) (sym (drop_of_length-le r {i = 5} (omega arith))))
