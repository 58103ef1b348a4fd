-- `sheet::on_sheet` meets its contract. Assumes nothing.
use mathlib.Core.Path.{◌≡◌, sym, ◌∙◌}
use mathlib.Core.Bool.{true}
use mir.Syntax.{w64}
use mir.Val.{to_z, of_z}
use mir.Facts.{to_z-of_z}
use Rattle.arith.specs.Bounds.{size_up_to}
use Rattle.arith.proofs.Fits.{plain, back}
use Rattle.sheet.specs.Sheets.{offset_of, on_sheet}
use Rattle.sheet.proofs.Fields.{typed, wide}
use Rattle.sheet.proofs.on_sheet.Goals as goal
use Rattle.sheet.proofs.on_sheet.Goals.{After-offset_unchecked-d, Then-size_up_to}

in_range_lem : (c : Then-size_up_to) → size_up_to 180000000 c.before.before.args.longitude ≡ true
in_range_lem c =
    let e = c.before.size_up_to.ensures in
    rw (to_z-of_z c.before.before.ranges.longitude) at (sym e ∙ c.if-size_up_to.true)

offset-is : (c : After-offset_unchecked-d) →
    to_z w64 (of_z w64 c.offset_unchecked-d.result) ≡ offset_of c.before.before.before.args.sheet c.before.before.before.args.longitude
offset-is c =
    back w64 c.offset_unchecked-d.result c.offset_unchecked-d.type_inv ∙ rw (to_z-of_z c.before.before.before.ranges.longitude) at c.offset_unchecked-d.ensures

pub returns-then-size_up_to : goal.returns-then-size_up_to
unfolding on_sheet
returns-then-size_up_to c =
    let t = typed {s = c.args.sheet} c.struct_told-then-size_up_to-1.given in
    let o = c.before.before.before.before.before in
    let s = o.before.before.before in
    rw (in_range_lem o.before, plain (wide t.fs) tt, plain (wide t.fn) tt, to_z-of_z s.ranges.latitude, c.size_up_to-then-size_up_to.ensures, offset-is o)

pub returns-else-size_up_to : goal.returns-else-size_up_to
unfolding on_sheet
returns-else-size_up_to c =
    let e = c.before.size_up_to.ensures in
    rw (rw (to_z-of_z c.before.before.ranges.longitude) at (sym e ∙ c.if-size_up_to.false))
