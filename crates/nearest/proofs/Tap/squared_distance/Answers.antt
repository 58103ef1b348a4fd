-- `nearest::Tap::squared_distance` meets its contract. Assumes nothing.
use mathlib.Core.Path.{ap₂}
use Prim.Native.Nat.{◌+◌}
use native.Mathlib.Omega.{arith}
use Rattle.place.proofs.Fields.{typed}
use Rattle.nearest.specs.Taps.{squared_distance}
use Rattle.nearest.proofs.Sizes.{square_most, difference_is, difference_most}
use Rattle.nearest.proofs.Tap.squared_distance.Goals as goal

pub overflow_add-result : goal.overflow_add-result
overflow_add-result c =
    let t = typed {p = c.args.place} c.struct_told-1.given in
    let x-is = rw (difference_is t.x c.args.self.x_in_range) at c.square_unchecked.ensures in
    let y-is = rw (difference_is t.y c.args.self.y_in_range) at c.square_unchecked-2.ensures in
    let m = square_most _ (difference_most t.x c.args.self.x_in_range) in
    let n = square_most _ (difference_most t.y c.args.self.y_in_range) in
    omega (arith, x-is, y-is, m, n)

pub returns : goal.returns
unfolding squared_distance
returns c =
    let t = typed {p = c.args.place} c.struct_told-1.given in
    let x-is = rw (difference_is t.x c.args.self.x_in_range) at c.square_unchecked.ensures in
    let y-is = rw (difference_is t.y c.args.self.y_in_range) at c.square_unchecked-2.ensures in
    ap₂ ◌+◌ x-is y-is
