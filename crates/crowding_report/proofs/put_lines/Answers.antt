-- `crowding_report::put_lines` meets its contract. The loop's invariant: `PutSoFar`, with the lines of the report. Assumes nothing.
use mathlib.Core.Path.{◌≡◌, ap, ◌∙◌}
use mathlib.Core.List.{List}
use Prim.Native.Nat.{ℕ, suc, ◌-◌, ◌<◌}
use native.Mathlib.Numerals.{add-one}
use native.Mathlib.Omega.{arith}
use lib.ListN.{get_or, length, drop_of_length-le}
use lib.Seq.{drop-cons}
use Rattle.place.specs.declared.Place.{Place}
use Rattle.place.specs.Places.{blank_place}
use Rattle.nearest.specs.Taps.{within_reach, usual_reach}
use Rattle.atlas_file.specs.Steps.{most_places}
use Rattle.atlas_file.specs.Reading.{places_read}
use Rattle.atlas.proofs.FilePlaces.{counted}
use Rattle.programs.proofs.Listings.{none_put, one_put, all_put}
use Rattle.crowding_report.specs.Crowding.{others_within, crowd_lines_from}
use Rattle.crowding_report.proofs.Others.{itself_and_others}
use Rattle.crowding_report.proofs.put_lines.Goals as goal

-- the places near the place at k: itself, and the others
others : (file : List ℕ) (k : ℕ) {p : Place} {n : ℕ} → k < length (places_read file most_places) → p ≡ get_or (places_read file most_places) k blank_place →
    n ≡ length (within_reach (places_read file most_places) p.«x» p.«y» usual_reach) → n ≡ suc (others_within (places_read file most_places) k usual_reach)
others file k inside is e = rw is at e ∙ itself_and_others (places_read file most_places) k usual_reach inside

pub loop-k-init : goal.loop-k-init
loop-k-init c = let p = c.args.places in none_put _ _ _ _ (omega (arith, c.requires, (counted p).1))

pub overflow_sub-around : goal.overflow_sub-around
overflow_sub-around c = omega (arith, others c.args.places.bytes.now c.loop-k.k (omega (arith, (counted c.args.places).0)) c.place_unchecked-place.ensures c.count_around-around.ensures)

pub loop-k-preserved : goal.loop-k-preserved
loop-k-preserved c =
    let l = c.loop-k in
    let p = c.args.places in
    let ps = places_read p.bytes.now most_places in
    let is = c.place_unchecked-place.ensures in
    let below : l.k < length ps = omega (arith, (counted p).0) in
    let near = others p.bytes.now l.k below is c.count_around-around.ensures in
    let less : c.count_around-around.result - 1 ≡ others_within ps l.k usual_reach = omega (arith, near) in
    let turn = ap (crowd_lines_from l.k ps) (drop-cons ps l.k blank_place below) in
    one_put _ _ _ _ l.invariant _ _ _ (omega arith) (rw (add-one, less, is) turn) c.crowd_line-line.ensures.0 c.put_line_unchecked-to.auto.out
    (rw (c.as_bytes.ensures.value ∙ c.as_str.ensures.value ∙ c.crowd_line-line.ensures.1) at c.put_line_unchecked-to.ensures)

pub returns : goal.returns
returns c =
    let p = c.args.places in
    let ps = places_read p.bytes.now most_places in
    all_put _ _ _ _ c.loop-k.invariant (ap (crowd_lines_from c.loop-k.k ps) (drop_of_length-le ps {i = c.loop-k.k} (omega (arith, (counted p).0))))
