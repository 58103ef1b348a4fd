-- named and zeros are what the definition says of the bytes behind those that are left.
use Rattle.std.proofs.Common.{◌≡◌, List, ℕ, ◌++◌}
use Rattle.place.specs.Names.{are_zeros, are_printable_then_zeros}
use Rattle.place.proofs.is_name.Given as goal

abbrev pub invariant-loop-b : goal.invariant-loop-b
invariant-loop-b l = (tail : List ℕ) × (l.fn.name ≡ l.b-iterator.iter.rest.now ++ tail) × (l.zeros ≡ are_zeros tail) × (l.named ≡ are_printable_then_zeros tail)
