-- The records of the places so far are written, and the rest of the buffer is as it was.
use Rattle.std.proofs.Common.{◌≡◌, ◌+◌, ◌*◌, ◌++◌, length, take, drop}
use Rattle.atlas_file.specs.Writing.{place_records}
use Rattle.atlas.proofs.write_places.Given as goal

abbrev pub invariant-loop-k : goal.invariant-loop-k
invariant-loop-k l = record {
  here : l.at ≡ l.first + 37 * l.k;
  written : length (place_records (take l.k l.table)) ≡ 37 * l.k;
  parts : l.buffer ≡ take l.first l.initial.buffer ++ place_records (take l.k l.table) ++ drop l.at l.initial.buffer;
}
