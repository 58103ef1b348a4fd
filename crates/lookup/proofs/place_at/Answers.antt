-- `lookup::place_at` meets its contract. Assumes nothing.
use native.Mathlib.Omega.{arith}
use borrow.Author.Tests.{lt-ltb, le-ltb}
use lib.ListN.{length}
use Rattle.std.proofs.lemmas.Result.{err_from_is_err_and}
use Rattle.refusal.proofs.Distinct.{not_zero}
use Rattle.atlas_file.specs.Steps.{most_places}
use Rattle.atlas_file.specs.Reading.{places_read}
use Rattle.atlas.proofs.FilePlaces.{counted}
use Rattle.lookup.specs.Lookups.{place_among, place_at_reply}
use Rattle.lookup.proofs.place_at.Goals as goal

pub returns-in_err-places : goal.returns-in_err-places
unfolding place_at_reply
returns-in_err-places c =
    let p = err_from_is_err_and c.from_residual.result c.from_residual.ensures.1 in
    rw (p.1, p.2, ← c.in_err-places.ensures.refused, not_zero c.in_err-places.field-0.0.«refusal»)

pub returns-then-places-position : goal.returns-then-places-position
unfolding place_among place_at_reply
returns-then-places-position c =
    let p = c.in_ok-places.places in
    let none = le-ltb c.args.position (length (places_read p.bytes.now most_places)) (omega (arith, (counted p).0, c.if-places-position.true)) in
    rw (c.from.ensures, ← c.in_ok-places.ensures.accepted, p.accepted.good, none)

pub returns : goal.returns
unfolding place_among place_at_reply
returns c =
    let p = c.in_ok-places.places in
    let here = lt-ltb c.args.position (length (places_read p.bytes.now most_places)) (omega (arith, (counted p).0, c.if-places-position.false)) in
    rw (c.place_unchecked.ensures, ← c.in_ok-places.ensures.accepted, p.accepted.good, here)
