-- The places from k on come to what all of them come to.
use Rattle.std.proofs.Common.{◌≡◌, drop}
use Rattle.atlas.proofs.PlacesInTurn.{in_turn}
use Rattle.atlas.proofs.check_places.Given as goal

abbrev pub invariant-loop-k : goal.invariant-loop-k
invariant-loop-k l = in_turn l.checked.sheet l.k l.last_id (drop l.k l.table) ≡ in_turn l.checked.sheet 0 0 l.table
