-- Document 01, 'The atlas file': one byte of kind, then a body whose length the kind fixes. What a kind says, and the bytes of the three records, kind byte and body.
use Rattle.std.specs.Prelude.{ℕ, suc, cond, ◌≡◌, List, [], ◌∷◌, ◌++◌, get_or, length, take, drop, eqb, pos, Result, Ok, Err}
use Rattle.refusal.specs.declared.Refusal.{Refusal}
use Rattle.refusal.specs.declared.Refusal.TheVariants.{Kind}
use Rattle.refusal.specs.Numbers.{Reply, reply_by}
use Rattle.sheet.specs.declared.Sheet.{Sheet}
use Rattle.records.specs.declared.Record.{Record}
use Rattle.records.specs.declared.Record.TheVariants as records
use Rattle.place.specs.declared.Place.{Place}
use Rattle.little_endian.specs.Numbers.{u32_at, i32_at, unsigned, numbers_bytes, IsI32, IsU32}

-- the record that a kind byte begins: 1 sheet, 2 place, 3 end; any other kind is unknown: 2
unfoldable pub layout_of : (byte : ℕ) → Result Record Refusal
layout_of byte = cond (eqb byte 1) (Ok records.Sheet) (cond (eqb byte 2) (Ok records.Place) (cond (eqb byte 3) (Ok records.End) (Err Kind)))

-- how many bytes its body has
abbrev pub body_of : Record → ℕ
body_of records.Sheet = 36
body_of records.Place = 36
body_of records.End = 4

-- the number and the values that it stands for: which record it is (1 sheet, 2 place, 3 end), and its body's length
abbrev pub record_number : Record → ℕ
record_number records.Sheet = 1
record_number records.Place = 2
record_number records.End = 3

abbrev pub layout_reply_of : Result Record Refusal → Reply
layout_reply_of = reply_by 2 (λ which. pos (record_number which) ∷ pos (body_of which) ∷ [])

-- what a kind byte comes to
abbrev pub layout_reply : (byte : ℕ) → Reply
layout_reply byte = layout_reply_of (layout_of byte)

-- the bytes of one such record: a kind byte that says so, and the body that it fixes
pub record IsRecord (which : Record) (r : List ℕ) : Type 0 where
  pub layout : layout_of (get_or r 0 0) ≡ Ok which
  pub whole : length r ≡ suc (body_of which)

-- sheet: nine 32-bit numbers in the sheet's order; w and n unsigned, the rest signed
unfoldable pub sheet_of : List ℕ → Sheet
sheet_of r = record {
  first_parallel = i32_at r 1;
  second_parallel = i32_at r 5;
  origin_latitude = i32_at r 9;
  central_meridian = i32_at r 13;
  south_edge = i32_at r 17;
  north_edge = i32_at r 21;
  half_width = u32_at r 25;
  cone_constant = u32_at r 29;
  radius_constant = i32_at r 33;
}

unfoldable pub sheet_record : Sheet → List ℕ
sheet_record s =
    1 ∷
    numbers_bytes (
    unsigned s.first_parallel
    ∷ unsigned s.second_parallel
    ∷ unsigned s.origin_latitude
    ∷ unsigned s.central_meridian
    ∷ unsigned s.south_edge
    ∷ unsigned s.north_edge
    ∷ s.half_width
    ∷ s.cone_constant
    ∷ unsigned s.radius_constant
    ∷ []
    )

-- place: id (unsigned), latitude, longitude, x, y (signed 32 bits), name
unfoldable pub place_of : List ℕ → Place
place_of r = record {
  «id» = u32_at r 1;
  «latitude» = i32_at r 5;
  «longitude» = i32_at r 9;
  «x» = i32_at r 13;
  «y» = i32_at r 17;
  «name» = take 16 (drop 21 r);
}

unfoldable pub place_record : Place → List ℕ
place_record p =
    2 ∷ numbers_bytes (p.«id» ∷ unsigned p.«latitude» ∷ unsigned p.«longitude» ∷ unsigned p.«x» ∷ unsigned p.«y» ∷ []) ++ p.«name»

-- end: number of places (unsigned 32 bits)
unfoldable pub end_of : List ℕ → ℕ
end_of r = u32_at r 1

unfoldable pub end_record : ℕ → List ℕ
end_record count = 3 ∷ numbers_bytes (count ∷ [])

-- what the types of the fields hold; of a name only that it has 16 entries
pub record IsSheet (s : Sheet) : Type 0 where
  pub f1 : IsI32 s.first_parallel
  pub f2 : IsI32 s.second_parallel
  pub f0 : IsI32 s.origin_latitude
  pub m0 : IsI32 s.central_meridian
  pub fs : IsI32 s.south_edge
  pub fn : IsI32 s.north_edge
  pub w : IsU32 s.half_width
  pub n : IsU32 s.cone_constant
  pub g : IsI32 s.radius_constant

pub record IsPlace (p : Place) : Type 0 where
  pub id : IsU32 p.«id»
  pub latitude : IsI32 p.«latitude»
  pub longitude : IsI32 p.«longitude»
  pub x : IsI32 p.«x»
  pub y : IsI32 p.«y»
  pub name : length p.«name» ≡ 16
