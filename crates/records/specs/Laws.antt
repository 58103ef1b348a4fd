-- The laws of records that the file's layer goes by. Each is proved in proofs/, in the file that its comment names.
use Rattle.std.specs.Prelude.{ℕ, ◌≤◌, ◌≡◌, List, length, Result}
use Rattle.refusal.specs.declared.Refusal.{Refusal}
use Rattle.sheet.specs.declared.Sheet.{Sheet}
use Rattle.records.specs.declared.Record.{Record}
use Rattle.records.specs.declared.Record.TheVariants as records
use Rattle.place.specs.declared.Place.{Place}
use Rattle.little_endian.specs.Numbers.{Bytes, IsU32}
use Rattle.records.specs.Records.{layout_reply_of, IsRecord, IsSheet, IsPlace, sheet_of, sheet_record, place_of, place_record, end_of, end_record}

-- two layouts never share a number and values, so that the contract fixes the layout (Answers)
abbrev pub DistinctLayoutReplies : Type 0
DistinctLayoutReplies = (a b : Result Record Refusal) → layout_reply_of a ≡ layout_reply_of b → a ≡ b

-- THE SHEET'S RECORD, by which alone the file's layer knows it. It is a sheet's record, and decoding gives the sheet back (SheetRecords)
abbrev pub SheetKind : Type 0
SheetKind = (s : Sheet) → IsRecord records.Sheet (sheet_record s)

abbrev pub SheetBack : Type 0
SheetBack = (s : Sheet) → IsSheet s → sheet_of (sheet_record s) ≡ s

-- encoding gives the bytes of a record back; and of any list that has a record's kind and length, a record as long (SheetRecords)
abbrev pub SheetForth : Type 0
SheetForth = (r : List ℕ) → IsRecord records.Sheet r → Bytes r → sheet_record (sheet_of r) ≡ r

abbrev pub SheetAsLong : Type 0
SheetAsLong = (r : List ℕ) → IsRecord records.Sheet r → length (sheet_record (sheet_of r)) ≡ length r

-- no sheet's record is longer than this (SheetRecords)
abbrev pub longest_sheet_record : ℕ
longest_sheet_record = 37

abbrev pub SheetMost : Type 0
SheetMost = (r : List ℕ) → IsRecord records.Sheet r → length r ≤ longest_sheet_record

-- what is decoded fits the types of the fields (SheetRecords)
abbrev pub SheetDecoded : Type 0
SheetDecoded = (r : List ℕ) → IsRecord records.Sheet r → Bytes r → IsSheet (sheet_of r)

-- the same of a place's record, which has 37 bytes (PlaceRecords)
abbrev pub PlaceKind : Type 0
PlaceKind = (p : Place) → length p.«name» ≡ 16 → IsRecord records.Place (place_record p)

abbrev pub PlaceBack : Type 0
PlaceBack = (p : Place) → IsPlace p → place_of (place_record p) ≡ p

abbrev pub PlaceForth : Type 0
PlaceForth = (r : List ℕ) → IsRecord records.Place r → Bytes r → place_record (place_of r) ≡ r

abbrev pub PlaceLength : Type 0
PlaceLength = (r : List ℕ) → IsRecord records.Place r → length r ≡ 37

abbrev pub PlaceDecoded : Type 0
PlaceDecoded = (r : List ℕ) → IsRecord records.Place r → Bytes r → IsPlace (place_of r)

-- and of the end record, which has 5 (PlaceRecords)
abbrev pub EndKind : Type 0
EndKind = (count : ℕ) → IsRecord records.End (end_record count)

abbrev pub EndBack : Type 0
EndBack = (count : ℕ) → IsU32 count → end_of (end_record count) ≡ count

abbrev pub EndForth : Type 0
EndForth = (r : List ℕ) → IsRecord records.End r → Bytes r → end_record (end_of r) ≡ r

abbrev pub EndLength : Type 0
EndLength = (r : List ℕ) → IsRecord records.End r → length r ≡ 5
