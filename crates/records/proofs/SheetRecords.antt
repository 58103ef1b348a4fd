-- The laws of a sheet's record. Assumes nothing.
use mathlib.Core.Path.{◌≡◌, refl, sym}
use mathlib.Core.List.{[]}
use native.Mathlib.Omega.{arith}
use lib.ListN.{length, drop_of_length-le}
use Rattle.sheet.specs.declared.Sheet.{Sheet}
use Rattle.little_endian.specs.Numbers.{i32_at, u32_bytes, numbers_bytes}
use Rattle.records.specs.Records.{layout_of, sheet_of, sheet_record}
use Rattle.records.specs.Laws.{SheetKind, SheetBack, SheetForth, SheetAsLong, SheetMost, SheetDecoded}
use Rattle.little_endian.proofs.NumberLaws.{u32_back, i32_back, u32_below, i32_below, u32_then, i32_then}
use Rattle.records.proofs.KindBytes.{kind_byte, whole-record}

-- two sheets are the same where their fields are
pub sheet-is : {s t : Sheet} →
    s.first_parallel ≡ t.first_parallel →
    s.second_parallel ≡ t.second_parallel →
    s.origin_latitude ≡ t.origin_latitude →
    s.central_meridian ≡ t.central_meridian →
    s.south_edge ≡ t.south_edge →
    s.north_edge ≡ t.north_edge →
    s.half_width ≡ t.half_width →
    s.cone_constant ≡ t.cone_constant →
    s.radius_constant ≡ t.radius_constant →
    s ≡ t
sheet-is p1 p2 p3 p4 p5 p6 p7 p8 p9 = λ i. record {
  first_parallel = p1 i;
  second_parallel = p2 i;
  origin_latitude = p3 i;
  central_meridian = p4 i;
  south_edge = p5 i;
  north_edge = p6 i;
  half_width = p7 i;
  cone_constant = p8 i;
  radius_constant = p9 i;
}

pub sheet-kind : SheetKind
unfolding layout_of sheet_record numbers_bytes u32_bytes
sheet-kind s = record { layout = refl; whole = refl }

pub sheet_length : (s : Sheet) → length (sheet_record s) ≡ 37
sheet_length s = (sheet-kind s).whole

pub sheet-back : SheetBack
unfolding sheet_of sheet_record numbers_bytes i32_at u32_bytes
sheet-back s h =
    sheet-is
    (i32_back _ [] h.f1)
    (i32_back _ [] h.f2)
    (i32_back _ [] h.f0)
    (i32_back _ [] h.m0)
    (i32_back _ [] h.fs)
    (i32_back _ [] h.fn)
    (u32_back _ [] h.w)
    (u32_back _ [] h.n)
    (i32_back _ [] h.g)

pub sheet-forth : SheetForth
unfolding sheet_of sheet_record numbers_bytes
sheet-forth r k b =
    let n = k.whole in
    whole-record 1 (kind_byte k) (omega arith)
    (i32_then r b 1 (omega arith)
    (i32_then r b 5 (omega arith)
    (i32_then r b 9 (omega arith)
    (i32_then r b 13 (omega arith)
    (i32_then r b 17 (omega arith)
    (i32_then r b 21 (omega arith)
    (u32_then r b 25 (omega arith)
    (u32_then r b 29 (omega arith)
    (i32_then r b 33 (omega arith)
    (sym (drop_of_length-le r {i = 37} (omega arith))))))))))))

pub sheet-as_long : SheetAsLong
unfolding sheet_record numbers_bytes u32_bytes
sheet-as_long r k = sym (k.whole)

pub sheet-most : SheetMost
sheet-most r k = omega (arith, k.whole)

pub sheet-decoded : SheetDecoded
unfolding sheet_of
sheet-decoded r k b = record {
  f1 = i32_below r 1 b;
  f2 = i32_below r 5 b;
  f0 = i32_below r 9 b;
  m0 = i32_below r 13 b;
  fs = i32_below r 17 b;
  fn = i32_below r 21 b;
  w = u32_below r 25 b;
  n = u32_below r 29 b;
  g = i32_below r 33 b;
}
