-- `programs::put_places`: `PutSoFar`, with the places' lines.
use mathlib.Core.List.{List}
use Prim.Native.Nat.{ℕ}
use lib.ListN.{drop}
use Rattle.place.specs.declared.Place.{Place}
use Rattle.atlas_file.specs.Steps.{most_places}
use Rattle.atlas_file.specs.Reading.{places_read}
use Rattle.programs.specs.Listing.{place_lines}
use Rattle.programs.proofs.Listings.{PutSoFar}
use Rattle.programs.proofs.put_places.Given as goal

abbrev pub left : List Place → ℕ → List ℕ
left ps k = place_lines (drop k ps)

abbrev pub invariant-loop-k : goal.invariant-loop-k
invariant-loop-k l =
    PutSoFar (left (places_read l.places.bytes.now most_places)) l.places.count l.at l.initial.out l.out l.to l.k
