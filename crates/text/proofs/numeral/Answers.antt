-- `text::numeral` meets its contract. Assumes nothing.
use mathlib.Core.Path.{sym}
use native.Mathlib.Omega.{arith}
use lib.ListN.{drop_of_length-le}
use Rattle.std.proofs.lemmas.Grind.{common_steps}
use Rattle.text.proofs.Reading.{none_spelled, spelled_in_turn, digit_turn}
use Rattle.text.proofs.numeral.Goals as goal

pub returns-then-is_empty : goal.returns-then-is_empty
returns-then-is_empty c = sym (none_spelled c.args.text.now (grind (arith, common_steps)))

pub returns-in_err-value : goal.returns-in_err-value
returns-in_err-value c =
    let l = c.loop-byte in
    let text = c.args.text.now in
    rw (spelled_in_turn text (grind (arith, common_steps)), ← l.invariant, digit_turn l.value l.byte-index text c.loop-byte-test.true c.with_digit.ensures, c.in_err-value.was) c.from_residual.ensures

pub returns : goal.returns
returns c =
    let l = c.loop-byte in
    let text = c.args.text.now in
    rw (spelled_in_turn text (grind (arith, common_steps)), ← l.invariant, drop_of_length-le text {i = l.byte-index} (omega arith))
