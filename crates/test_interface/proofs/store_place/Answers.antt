-- `test_interface::store_place` meets its contract. Assumes nothing.
use mathlib.Core.List.{[], ◌∷◌}
use mathlib.Core.Path.{refl}
use Rattle.place.proofs.Fields.{typed}
use Rattle.test_interface.specs.Stored.{place_numbers}
use Rattle.test_interface.proofs.Bits.{widened, counted}
use Rattle.test_interface.proofs.store_place.Goals as goal

pub returns : goal.returns
unfolding place_numbers
returns c =
    let p = typed {p = c.args.place} c.struct_told-1.given in (
      λ i.
          counted p.id i
          ∷ widened c.wide.type_inv c.wide.ensures p.latitude i
          ∷ widened c.wide-2.type_inv c.wide-2.ensures p.longitude i
          ∷ widened c.wide-3.type_inv c.wide-3.ensures p.x i
          ∷ widened c.wide-4.type_inv c.wide-4.ensures p.y i
          ∷ [],
      refl,
    )
