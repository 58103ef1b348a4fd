-- Refusals leave tables and buffers alone; cut files; what is written is read, and what is read is written. Assumes nothing.
use mathlib.Core.Path.{◌≡◌, refl, sym, ap, ◌∙◌}
use mathlib.Core.List.{List, ◌++◌}
use Prim.Native.Nat.{ℕ}
use lib.ListN.{length, take, drop}
use lib.Seq.{take_at}
use Rattle.refusal.specs.Numbers.{Reply}
use Rattle.refusal.proofs.InOrder.{not_refused_all_hold, both_hold, all_hold-good, by_outcome}
use Rattle.sheet.specs.declared.Sheet.{Sheet}
use Rattle.place.specs.declared.Place.{Place}
use Rattle.atlas_file.specs.Reading.{Reading, read_of, read_reply, places_read}
use Rattle.atlas_file.specs.Writing.{file_of, list_rules, write_rules, write_reply}
use Rattle.integrity.proofs.Accepted.{count-is_places, writes_back, writer_accepts}
use Rattle.integrity.proofs.Cuts.{cut_refused}
use Rattle.integrity.proofs.Returns.{reads_back}
use Rattle.integrity.proofs.Stands.{refused-has_none}
use Rattle.atlas.specs.Tables.{table_after}
use Rattle.atlas.specs.Buffers.{buffer_after}
use Rattle.atlas.specs.Laws.{RefusedTable, RefusedBuffer, CutUntouched, ReadsWritten, WritesRead}

-- what a table holds after a file of known reading
after : (b : List ℕ) (table : List Place) (R : Reading) → read_of b (length table) ≡ R → table_after b table ≡ R.places ++ drop (length R.places) table
after b table R e = ap (λ (X : Reading). X.places ++ drop (length X.places) table) e

pub refused-table : RefusedTable
refused-table b before e = ap (λ (ps : List Place). ps ++ drop (length ps) before) (refused-has_none b (length before) e)

-- where the writer's rules hold, the file is in the buffer
written : (s : Sheet) (ps : List Place) (before : List ℕ) → (write_reply s ps (length before)).number ≡ 0 → buffer_after s ps before ≡ file_of s ps ++ drop (length (file_of s ps)) before
unfolding buffer_after
written s ps before e = all_hold-good (List ℕ) (write_rules s ps (length before)) _ _ (not_refused_all_hold 1 (write_rules s ps (length before)) _ e)

pub refused-buffer : RefusedBuffer
unfolding buffer_after
refused-buffer s ps before n =
    let rules = write_rules s ps (length before) in
    by_outcome (List ℕ) (λ l. l ≡ before) rules _ (λ why. before) (λ h. absurd (n (ap (λ (X : Reply). X.number) (all_hold-good Reply rules _ _ h)))) (λ r. refl)

pub cut_untouched : CutUntouched
cut_untouched b table other k e room h =
    let cut = cut_refused b (length table) (length other) k e room h in
    (cut.0, cut.1, ap (λ (X : Reading). X.reply) cut.2, after (take k b) other _ cut.2)

pub reads_written : ReadsWritten
unfolding write_rules
reads_written s ps table before is are e room =
    let rules = (both_hold (list_rules s ps) _ (not_refused_all_hold 1 (write_rules s ps (length before)) _ e)).0 in
    let file = ap (take (length (file_of s ps))) (written s ps before e) ∙ take_at (file_of s ps) (drop (length (file_of s ps)) before) (length (file_of s ps)) refl in
    let read = ap (λ (b : List ℕ). read_of b (length table)) file ∙ reads_back s ps (length table) is are rules room in
    (ap (λ (X : Reading). X.reply) read, after _ table _ read)

pub writes_read : WritesRead
writes_read b before table bytes e room =
    let reply = read_reply b (length table) in
    let places = places_read b (length table) in
    let first : take reply.count (table_after b table) ≡ places = take_at places (drop (length places) table) reply.count (sym (count-is_places b (length table) e).0) in
    let accepts = writer_accepts b (length table) (length before) bytes e room in
    let same = writes_back b (length table) bytes e in
    let file = written reply.sheet places before (ap (λ (X : Reply). X.number) accepts) ∙ ap (λ (l : List ℕ). l ++ drop (length l) before) same in
    rw first (accepts, file)
