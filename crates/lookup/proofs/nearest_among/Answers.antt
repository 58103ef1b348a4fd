-- `lookup::nearest_among` meets its contract. Assumes nothing.
use mathlib.Core.Path.{sym}
use mir.Facts.{to_z-of_z}
use Rattle.std.proofs.lemmas.Result.{err_from_is_err_and}
use Rattle.refusal.proofs.Distinct.{not_zero}
use Rattle.nearest.proofs.NearestLaws.{nearest_is_least}
use Rattle.lookup.specs.Lookups.{nearest_among}
use Rattle.lookup.proofs.nearest_among.Goals as goal

pub returns-in_err-position : goal.returns-in_err-position
unfolding nearest_among
returns-in_err-position c =
    let f = c.ranges in
    let p = err_from_is_err_and c.from_residual.result c.from_residual.ensures.1 in
    let told = rw (to_z-of_z f.x, to_z-of_z f.y, to_z-of_z f.reach) at c.in_err-position.ensures in
    rw (p.1, p.2, ← told, not_zero c.in_err-position.field-0.0)

-- where a place is found: the reply has its position
pub place_at_unchecked-requires : goal.place_at_unchecked-requires
place_at_unchecked-requires c =
    let f = c.ranges in
    (nearest_is_least _ _ _ _ _ (sym (rw (to_z-of_z f.x, to_z-of_z f.y, to_z-of_z f.reach) at c.in_ok-position.ensures))).in_table

pub returns : goal.returns
unfolding nearest_among
returns c =
    let f = c.ranges in
    let told = rw (to_z-of_z f.x, to_z-of_z f.y, to_z-of_z f.reach) at c.in_ok-position.ensures in
    rw (c.place_at_unchecked.ensures, ← told)
