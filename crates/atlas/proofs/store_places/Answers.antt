-- `atlas::store_places` meets its contract. Assumes nothing.
use mathlib.Core.Path.{ap, ◌∙◌}
use native.Mathlib.Numerals.{add-one}
use native.Mathlib.Omega.{arith}
use lib.ListN.{length, get_or}
use Rattle.place.specs.Places.{blank_place}
use Rattle.atlas_file.specs.Reading.{Reading, places_read}
use Rattle.table.proofs.Entries.{one_more, all_stored}
use Rattle.atlas.proofs.FilePlaces.{other-room, with_most, accepted-count}
use Rattle.atlas.proofs.store_places.Goals as goal

pub invariant_of-places : goal.invariant_of-places
invariant_of-places c =
    let a = c.requires in
    let count = ap (λ (X : Reading). X.reply.count) (other-room a.0) in
    record { accepted = with_most a.0; counted = omega (arith, a.1, count) }

pub set_place_unchecked-requires : goal.set_place_unchecked-requires
set_place_unchecked-requires c = omega (arith, c.requires.1, (accepted-count c.requires.0).1, c.loop-k.auto.table)

pub loop-k-preserved : goal.loop-k-preserved
loop-k-preserved c =
    let l = c.loop-k in
    let n = accepted-count c.requires.0 in
    let place = c.place_unchecked.ensures ∙ ap (λ (X : Reading). get_or X.places l.k blank_place) (other-room c.requires.0) in
    let stored = rw (place, l.invariant) at c.set_place_unchecked.ensures in
    rw add-one (stored ∙ one_more blank_place (places_read c.args.bytes.now (length c.args.table.now)) c.args.table.now l.k (omega (arith, c.requires.1, n.0)) (omega (arith, c.requires.1, n.1)))

pub returns : goal.returns
returns c =
    c.loop-k.invariant ∙ all_stored blank_place _ c.args.table.now c.loop-k.k (omega (arith, c.requires.1, (accepted-count c.requires.0).0))
