-- What holds of reading into a table and of writing into a buffer. Each is proved in proofs/, in the file that its comment names.
use Rattle.std.specs.Prelude.{ℕ, ◌≤◌, ◌<◌, ◌≡◌, List, [], ◌∷◌, ◌++◌, length, take, drop, pos, Result}
use Rattle.refusal.specs.declared.Refusal.{Refusal}
use Rattle.refusal.specs.declared.Refusal.TheVariants.{Cut}
use Rattle.refusal.specs.Numbers.{accepted}
use Rattle.sheet.specs.declared.Sheet.{Sheet}
use Rattle.place.specs.declared.Place.{Place}
use Rattle.little_endian.specs.Numbers.{Bytes}
use Rattle.records.specs.Records.{IsSheet}
use Rattle.atlas_file.specs.Reading.{accepted_file, refused_file, read_reply}
use Rattle.atlas_file.specs.Writing.{file_of, write_reply}
use Rattle.integrity.specs.Integrity.{ArePlaces}
use Rattle.atlas.specs.Tables.{table_after}
use Rattle.atlas.specs.Buffers.{write_reply_of, buffer_after}

-- two answers of the writer never share a number and values, so that the contract fixes the answer (Answers)
abbrev pub DistinctWriteReplies : Type 0
DistinctWriteReplies = (a b : Result ℕ Refusal) → write_reply_of a ≡ write_reply_of b → a ≡ b

-- A REFUSAL changes no table and no buffer (RoundTrips)
abbrev pub RefusedTable : Type 0
RefusedTable = (b : List ℕ) (before : List Place) → ((read_reply b (length before)).number ≡ 0 → ⊥) → table_after b before ≡ before

abbrev pub RefusedBuffer : Type 0
RefusedBuffer = (s : Sheet) (ps : List Place) (before : List ℕ) → ((write_reply s ps (length before)).number ≡ 0 → ⊥) → buffer_after s ps before ≡ before

-- A CUT FILE. A file that was accepted into a table, cut at any byte short of its end, is refused with 1 if the other table has room for all its places, and that table is untouched (RoundTrips)
abbrev pub CutUntouched : Type 0
CutUntouched = (b : List ℕ) (table other : List Place) (k : ℕ) → (read_reply b (length table)).number ≡ 0 → (read_reply b (length table)).count ≤ length other → k < length b →
    (offset : ℕ) × (offset ≤ k) × (read_reply (take k b) (length other) ≡ refused_file Cut offset) × (table_after (take k b) other ≡ other)

-- READING WHAT WAS WRITTEN into a buffer, a sheet and places whose fields fit their types, into a table with room for the places, gives the same sheet and places (RoundTrips)
abbrev pub ReadsWritten : Type 0
ReadsWritten = (s : Sheet) (ps table : List Place) (before : List ℕ) → IsSheet s → ArePlaces ps → (write_reply s ps (length before)).number ≡ 0 → length ps ≤ length table →
    let b = take (length (file_of s ps)) (buffer_after s ps before) in
    (read_reply b (length table) ≡ accepted_file (length ps) s) × (table_after b table ≡ ps ++ drop (length ps) table)

-- WRITING WHAT WAS READ into a table, its first entries, into a buffer as long as the file or longer, gives the same bytes (RoundTrips)
abbrev pub WritesRead : Type 0
WritesRead = (b before : List ℕ) (table : List Place) → Bytes b → (read_reply b (length table)).number ≡ 0 → length b ≤ length before →
    let reply = read_reply b (length table) in
    let ps = take reply.count (table_after b table) in
    (write_reply reply.sheet ps (length before) ≡ accepted (pos (length b) ∷ [])) × (buffer_after reply.sheet ps before ≡ b ++ drop (length b) before)
