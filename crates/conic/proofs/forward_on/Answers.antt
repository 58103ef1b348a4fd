-- `conic::forward_on` meets its contract. Assumes nothing.
use mathlib.Core.Path.{◌≡◌, sym, ◌∙◌}
use mathlib.Core.Bool.{◌&&◌}
use mir.Facts.{to_z-of_z}
use Rattle.sheet.specs.Sheets.{on_sheet}
use Rattle.conic.specs.Conic.{in_range}
use Rattle.conic.proofs.Answered.{on_sheet-answered, refused-off_sheet, refused-out_of_range}
use Rattle.conic.proofs.forward_on.Goals as goal
use Rattle.conic.proofs.forward_on.Goals.{After-on_sheet, After-size_up_to-2}

in-range-is : (c : After-size_up_to-2) → (c.size_up_to.result && c.size_up_to-2.result) ≡ in_range c.args.latitude c.args.longitude
in-range-is c = rw (c.size_up_to.ensures, c.size_up_to-2.ensures, to_z-of_z c.ranges.latitude, to_z-of_z c.ranges.longitude)

on-sheet-is : (c : After-on_sheet) → c.on_sheet.result ≡ on_sheet c.args.checked.now.sheet c.args.latitude c.args.longitude
on-sheet-is c = rw (to_z-of_z c.ranges.latitude, to_z-of_z c.ranges.longitude) at c.on_sheet.ensures

pub returns-then-not-size_up_to : goal.returns-then-not-size_up_to
returns-then-not-size_up_to c =
    let s = c.args in
    sym (refused-out_of_range s.checked.now.sheet s.latitude s.longitude c.args.checked.now.passes (sym (in-range-is (goal.at.returns-then-not-size_up_to c).After-size_up_to-2) ∙ c.if-not-size_up_to.true))

pub returns-then-not-on_sheet : goal.returns-then-not-on_sheet
returns-then-not-on_sheet c =
    let s = c.args in
    let at = goal.at.returns-then-not-on_sheet c in
    sym (refused-off_sheet s.checked.now.sheet s.latitude s.longitude c.args.checked.now.passes
    (sym (in-range-is at.After-size_up_to-2) ∙ c.if-not-size_up_to.false) (sym (on-sheet-is at.After-on_sheet) ∙ c.if-not-on_sheet.true))

pub returns : goal.returns
returns c =
    let s = c.args in
    let on = sym (on-sheet-is (goal.at.returns c).After-on_sheet) ∙ c.if-not-on_sheet.false in
    let p = c.point_of.ensures in
    rw (p.x_value, p.y_value, to_z-of_z c.ranges.latitude, to_z-of_z c.ranges.longitude) (sym (on_sheet-answered s.checked.now.sheet s.latitude s.longitude c.args.checked.now.passes on))
