-- `atlas::check_places` meets its contract. Assumes nothing.
use mathlib.Core.Path.{refl, ◌≡◌, ◌∙◌}
use native.Mathlib.Omega.{arith}
use lib.ListN.{length}
use lib.Seq.{drop-length}
use Rattle.std.specs.Prelude.{Ok, Err}
use Rattle.std.proofs.lemmas.Result.{err_from_is_err_and}
use Rattle.atlas_file.specs.Writing.{places_rules}
use Rattle.atlas.proofs.PlacesInTurn.{good_turn, bad_turn}
use Rattle.atlas.proofs.check_places.Goals as goal

pub loop-k-preserved : goal.loop-k-preserved
loop-k-preserved c =
    let l = c.loop-k in
    good_turn _ _ l.k l.last_id _ (Ok tt) (omega arith) c.place_at_unchecked-place.ensures c.in_ok-check_place_on.ensures refl ∙ l.invariant

pub returns-in_err-check_place_on : goal.returns-in_err-check_place_on
returns-in_err-check_place_on c =
    let l = c.loop-k in
    let p = err_from_is_err_and c.from_residual.result c.from_residual.ensures.1 in
    let why = c.in_err-check_place_on.field-0.0 in
    rw (p.1, p.2) (bad_turn _ _ l.k l.last_id _ (Err why) (omega arith) c.place_at_unchecked-place.ensures c.in_err-check_place_on.ensures why refl ∙ l.invariant)

pub returns : goal.returns
unfolding places_rules
returns c =
    let table = c.args.table.now in
    let e : c.loop-k.k ≡ length table = omega arith in
    rw (e, drop-length) at c.loop-k.invariant
