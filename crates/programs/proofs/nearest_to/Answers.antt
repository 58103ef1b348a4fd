-- `programs::nearest_to` meets its contract. Assumes nothing.
use mathlib.Core.Path.{◌≡◌, sym}
use mathlib.Core.List.{[], ◌∷◌}
use mir.Facts.{to_z-of_z}
use lib.IntN.{pos}
use Rattle.refusal.specs.Numbers.{accepted}
use Rattle.refusal.proofs.Distinct.{not_zero}
use Rattle.nearest.specs.Taps.{nearest_reply, usual_reach}
use Rattle.nearest.proofs.NearestLaws.{nearest_is_least}
use Rattle.programs.specs.Tapping.{near_line}
use Rattle.programs.proofs.nearest_to.Goals as goal
use Rattle.programs.proofs.nearest_to.Goals.{In-Ok}

-- where a place is found, the reply has its position
told : (c : In-Ok) → nearest_reply c.args.table.now c.args.x c.args.y usual_reach ≡ accepted (pos c.in-Ok.position ∷ [])
told c = let f = c.ranges in sym (rw (to_z-of_z f.x, to_z-of_z f.y) at c.in-Ok.ensures)

-- which is within the table
pub place_at_unchecked-place-requires : goal.place_at_unchecked-place-requires
place_at_unchecked-place-requires c = (nearest_is_least _ _ _ _ _ (told ((goal.at.place_at_unchecked-place-requires c).In-Ok))).in_table

pub returns-in-Ok : goal.returns-in-Ok
unfolding near_line
returns-in-Ok c =
    let f = c.ranges in
    rw (told ((goal.at.returns-in-Ok c).In-Ok)) (rw (c.place_at_unchecked-place.ensures, to_z-of_z f.latitude, to_z-of_z f.longitude) at c.found_line.ensures)

pub returns-in-Err : goal.returns-in-Err
unfolding near_line
returns-in-Err c =
    let f = c.ranges in
    rw (← (rw (to_z-of_z f.x, to_z-of_z f.y) at c.in-Err.ensures), not_zero c.in-Err.field-0)
    (rw (to_z-of_z f.latitude, to_z-of_z f.longitude) at c.nothing_found_line.ensures)
