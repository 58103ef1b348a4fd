-- `text::read_coordinate` meets its contract. Assumes nothing.
use mathlib.Core.List.{[], ◌∷◌}
use Rattle.std.proofs.lemmas.Bool.Decides.{Decides-eqb}
use Rattle.std.proofs.lemmas.Slice.Eq.{strip_prefix_is}
use Rattle.text.specs.Decimals.{minus}
use Rattle.text.proofs.Coordinates.{minus_read, no_minus_read}
use Rattle.text.proofs.read_coordinate.Goals as goal

pub returns-in_err-numeral-in-Some : goal.returns-in_err-numeral-in-Some
returns-in_err-numeral-in-Some c =
    let p = strip_prefix_is Decides-eqb c.args.text.now (minus ∷ []) c.strip_prefix.result c.strip_prefix.ensures.cases in
    let first = rw c.in-Some.is at p in
    rw (first, minus_read, ← c.numeral.ensures, c.in_err-numeral-in-Some.was) c.from_residual.ensures

pub returns-in_ok-numeral-in-Some : goal.returns-in_ok-numeral-in-Some
returns-in_ok-numeral-in-Some c =
    let p = strip_prefix_is Decides-eqb c.args.text.now (minus ∷ []) c.strip_prefix.result c.strip_prefix.ensures.cases in
    let first = rw c.in-Some.is at p in
    rw (first, minus_read, ← c.numeral.ensures, c.in_ok-numeral-in-Some.was) c.coordinate_of_size.ensures

pub returns-in_err-numeral-in-None : goal.returns-in_err-numeral-in-None
returns-in_err-numeral-in-None c =
    let p = strip_prefix_is Decides-eqb c.args.text.now (minus ∷ []) c.strip_prefix.result c.strip_prefix.ensures.cases in
    let first = rw c.in-None.is at p in
    rw (no_minus_read c.args.text.now first, ← c.numeral-in-None.ensures, c.in_err-numeral-in-None.was) c.from_residual-in_err-numeral-in-None.ensures

pub returns-in_ok-numeral-in-None : goal.returns-in_ok-numeral-in-None
returns-in_ok-numeral-in-None c =
    let p = strip_prefix_is Decides-eqb c.args.text.now (minus ∷ []) c.strip_prefix.result c.strip_prefix.ensures.cases in
    let first = rw c.in-None.is at p in
    rw (no_minus_read c.args.text.now first, ← c.numeral-in-None.ensures, c.in_ok-numeral-in-None.was) c.coordinate_of_size-in-None.ensures
