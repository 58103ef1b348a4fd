-- `programs::put_places` meets its contract. Assumes nothing.
use mathlib.Core.Path.{ap}
use Prim.Native.Nat.{◌<◌}
use native.Mathlib.Numerals.{add-one}
use native.Mathlib.Omega.{arith}
use lib.ListN.{length, drop_of_length-le}
use lib.Seq.{drop-cons}
use Rattle.place.specs.Places.{blank_place}
use Rattle.atlas_file.specs.Steps.{most_places}
use Rattle.atlas_file.specs.Reading.{places_read}
use Rattle.atlas.proofs.FilePlaces.{counted}
use Rattle.programs.specs.Listing.{place_lines}
use Rattle.programs.proofs.Listings.{none_put, one_put, all_put}
use Rattle.programs.proofs.put_places.Goals as goal

pub loop-k-init : goal.loop-k-init
loop-k-init c = let p = c.args.places in none_put _ _ _ _ (omega (arith, c.requires, (counted p).1))

pub loop-k-preserved : goal.loop-k-preserved
loop-k-preserved c =
    let l = c.loop-k in
    let p = c.args.places in
    let ps = places_read p.bytes.now most_places in
    let below : l.k < length ps = omega (arith, (counted p).0) in
    let turn = ap place_lines (drop-cons ps l.k blank_place below) in
    one_put _ _ _ _ l.invariant _ _ _ (omega arith) (rw (add-one, c.place_unchecked.ensures) turn) c.place_line.ensures.0 c.put-to.auto.out
    (rw c.place_line.ensures.1 at c.put-to.ensures)

pub returns : goal.returns
returns c =
    let p = c.args.places in
    let ps = places_read p.bytes.now most_places in
    all_put _ _ _ _ c.loop-k.invariant (ap place_lines (drop_of_length-le ps {i = c.loop-k.k} (omega (arith, (counted p).0))))
