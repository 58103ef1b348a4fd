-- `text::with_digit` meets its contract. Assumes nothing.
use mathlib.Core.Path.{sym, ◌∙◌}
use native.Mathlib.Omega.{arith}
use Rattle.text.proofs.Reading.{digit_read, no_digit, past_limit}
use Rattle.text.proofs.with_digit.Goals.{then-not-is_ascii_digit-via-then-not-is_ascii_digit, then-not-is_ascii_digit-via-else-not-is_ascii_digit+then-value-ge-TOO_LARGE}
use Rattle.text.proofs.with_digit.Goals as goal

pub returns-then-not-is_ascii_digit : goal.returns-then-not-is_ascii_digit
returns-then-not-is_ascii_digit c =
    let a = c.args in
    elim c.then-not-is_ascii_digit.branch [
      | then-not-is_ascii_digit-via-then-not-is_ascii_digit w ↦ sym (no_digit a.value a.byte (sym c.is_ascii_digit.ensures.value ∙ w.if-not-is_ascii_digit.true))
      | then-not-is_ascii_digit-via-else-not-is_ascii_digit+then-value-ge-TOO_LARGE w ↦ sym (past_limit a.value a.byte (omega arith))
    ]

pub returns-then-next-lt-TOO_LARGE : goal.returns-then-next-lt-TOO_LARGE
returns-then-next-lt-TOO_LARGE c = let a = c.args in sym (digit_read a.value a.byte (sym c.is_ascii_digit.ensures.value ∙ c.if-not-is_ascii_digit.false) c.if-next-lt-TOO_LARGE.true)

pub returns-else-next-lt-TOO_LARGE : goal.returns-else-next-lt-TOO_LARGE
returns-else-next-lt-TOO_LARGE c = let a = c.args in sym (past_limit a.value a.byte c.if-next-lt-TOO_LARGE.false)
