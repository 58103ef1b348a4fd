-- `text::decimal` meets its contract. Assumes nothing.
use native.Mathlib.Omega.{arith}
use Rattle.text.proofs.Printed.{signed_printed_64}
use Rattle.text.proofs.decimal.Goals as goal

pub returns : goal.returns
returns c =
    rw (← (signed_printed_64 c.ranges.n), ← c.format.ensures.text) (omega (arith, c.format.ensures.short), rw c.empty-line.ensures.1 at c.push_str.ensures.bytes)
