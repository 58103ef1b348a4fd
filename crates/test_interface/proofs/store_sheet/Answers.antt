-- `test_interface::store_sheet` meets its contract. Assumes nothing.
use mathlib.Core.List.{[], ◌∷◌}
use Rattle.sheet.proofs.Fields.{typed}
use Rattle.test_interface.specs.Stored.{sheet_numbers}
use Rattle.test_interface.proofs.Bits.{widened, counted}
use Rattle.test_interface.proofs.store_sheet.Goals as goal

pub returns : goal.returns
unfolding sheet_numbers
returns c =
    let t = typed {s = c.args.sheet} c.struct_told-1.given in
    λ i.
    widened c.wide.type_inv c.wide.ensures t.f1 i
    ∷ widened c.wide-2.type_inv c.wide-2.ensures t.f2 i
    ∷ widened c.wide-3.type_inv c.wide-3.ensures t.f0 i
    ∷ widened c.wide-4.type_inv c.wide-4.ensures t.m0 i
    ∷ widened c.wide-5.type_inv c.wide-5.ensures t.fs i
    ∷ widened c.wide-6.type_inv c.wide-6.ensures t.fn i
    ∷ counted t.w i
    ∷ counted t.n i
    ∷ widened c.wide-7.type_inv c.wide-7.ensures t.g i
    ∷ []
