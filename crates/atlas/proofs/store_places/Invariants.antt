-- The first k places are stored, and the rest of the table is as it was.
use Rattle.std.proofs.Common.{◌≡◌, ◌++◌, length, take, drop}
use Rattle.atlas_file.specs.Reading.{places_read}
use Rattle.atlas.proofs.store_places.Given as goal

abbrev pub invariant-loop-k : goal.invariant-loop-k
invariant-loop-k l = l.table ≡ take l.k (places_read l.bytes (length l.initial.table)) ++ drop l.k l.initial.table
