-- The lines of the first k places are put, one behind the other.
use Rattle.std.proofs.Common.{ℕ, List, drop}
use Rattle.place.specs.declared.Place.{Place}
use Rattle.atlas_file.specs.Steps.{most_places}
use Rattle.atlas_file.specs.Reading.{places_read}
use Rattle.programs.proofs.Listings.{PutSoFar}
use Rattle.crowding_report.specs.Crowding.{crowd_lines_from}
use Rattle.crowding_report.proofs.put_lines.Given as goal

abbrev pub left : List Place → ℕ → List ℕ
left ps k = crowd_lines_from k ps (drop k ps)

abbrev pub invariant-loop-k : goal.invariant-loop-k
invariant-loop-k l = PutSoFar (left (places_read l.places.bytes.now most_places)) l.places.count 0 l.initial.out l.out l.to l.k
