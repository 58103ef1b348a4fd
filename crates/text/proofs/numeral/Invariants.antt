-- What the digits still to come make of the number so far is what all of them spell.
use Rattle.std.proofs.Common.{◌≡◌, drop}
use Rattle.text.proofs.Reading.{capped}
use Rattle.text.proofs.numeral.Given as goal

abbrev pub invariant-loop-byte : goal.invariant-loop-byte
invariant-loop-byte l = capped l.value (drop l.byte-index l.text) ≡ capped 0 l.text
