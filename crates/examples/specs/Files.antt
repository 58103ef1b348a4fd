-- Document 01, 'Examples on both sides', case 11: a file of A and place 7, "Mill", at case 7.
use Rattle.std.specs.Prelude.{ℕ, ◌<◌, ◌≡◌, List, [], ◌∷◌, length, take, replicate, ℤ, pos}
use Rattle.refusal.specs.declared.Refusal.TheVariants.{Cut, NoRoom}
use Rattle.refusal.specs.Numbers.{refused}
use Rattle.sheet.specs.declared.Sheet.{Sheet}
use Rattle.sheet.specs.Samples.{sheet_a, sheet_a_with}
use Rattle.place.specs.declared.Place.{Place}
use Rattle.atlas_file.specs.Reading.{accepted_reading, refused_reading, read_of, read_reply}
use Rattle.atlas_file.specs.Writing.{file_of, write_reply}

-- "Mill" with an id, a latitude, an x and the first byte of its name
abbrev pub mill_with : (id : ℕ) (latitude x : ℤ) (first : ℕ) → Place
mill_with id latitude x first = record {
  «id» = id;
  «latitude» = latitude;
  «longitude» = pos 10000000;
  «x» = x;
  «y» = pos 1000000;
  «name» = first ∷ 105 ∷ 108 ∷ 108 ∷ replicate 12 0;
}

abbrev pub mill : Place
mill = mill_with 7 (pos 31000000) (pos 0) 77

abbrev pub mill_file : List ℕ
mill_file = file_of sheet_a (mill ∷ [])

-- it has 79 bytes, and is read
abbrev pub MillLength : Type 0
MillLength = length mill_file ≡ 79

abbrev pub MillRead : Type 0
MillRead = read_of mill_file 1 ≡ accepted_reading 1 sheet_a (mill ∷ [])

-- its first 0 to 78 bytes are refused with 1; the empty one at 0
abbrev pub MillCut : Type 0
MillCut = (k : ℕ) → k < 79 → (read_reply (take k mill_file) 1).number ≡ 1

abbrev pub NothingRead : Type 0
NothingRead = read_of [] 1 ≡ refused_reading Cut 0

-- a buffer of 78 bytes: 10
abbrev pub ShortBuffer : Type 0
ShortBuffer = write_reply sheet_a (mill ∷ []) 78 ≡ refused 1 NoRoom

-- the writer's order, of a second place in a buffer without room: a bad sheet before a bad place (4, 5), the place (6, 7, 8, 14) before the buffer (10)
abbrev pub write_number : Sheet → Place → ℕ
write_number s p = (write_reply s (mill ∷ p ∷ []) 0).number

abbrev pub WriterOrder : Type 0
WriterOrder =
    write_number (sheet_a_with 60000001 536870944) (mill_with 7 (pos 31000000) (pos 0) 77)
    ∷ write_number (sheet_a_with 60000000 536870944) (mill_with 7 (pos 31000000) (pos 0) 77)
    ∷ write_number sheet_a (mill_with 7 (pos 41000000) (pos 1) 0)
    ∷ write_number sheet_a (mill_with 8 (pos 41000000) (pos 1) 0)
    ∷ write_number sheet_a (mill_with 8 (pos 31000000) (pos 1) 0)
    ∷ write_number sheet_a (mill_with 8 (pos 31000000) (pos 0) 0)
    ∷ write_number sheet_a (mill_with 8 (pos 31000000) (pos 0) 77)
    ∷ []
    ≡ 4 ∷ 5 ∷ 6 ∷ 7 ∷ 8 ∷ 14 ∷ 10 ∷ []
