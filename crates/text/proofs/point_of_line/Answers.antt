-- `text::point_of_line` meets its contract. Assumes nothing.
use mathlib.Core.Path.{◌≡◌, sym}
use Prim.Native.Nat.{suc, ◌+◌}
use native.Mathlib.Omega.{arith}
use borrow.Author.Rules.{rules}
use borrow.Author.Tests.{tests, le-leb}
use lib.Dec.{eqb}
use lib.ListN.{length}
use Rattle.std.proofs.lemmas.Iterator.{YieldsList-from_slice}
use Rattle.std.proofs.lemmas.Iterator.Search.{position_from_yields_List}
use Rattle.text.specs.Decimals.{is_number}
use Rattle.text.specs.Lines.{space}
use Rattle.text.specs.TapLines.{longest_tap, before_space, after_space, has_form, x_of, y_of, line_rules, line_reply}
use Rattle.text.specs.Coordinates.{coordinate_of}
use Rattle.text.proofs.Coordinates.{space_found, before_is, after_is, none_of, rest_is, both_read}
use Rattle.text.proofs.TapLaws.{too_long}
use Rattle.text.proofs.point_of_line.Goals as goal

pub returns-then-line-gt-LONGEST_TAP : goal.returns-then-line-gt-LONGEST_TAP
returns-then-line-gt-LONGEST_TAP c = sym (too_long c.args.line.now (omega arith))

pub returns-in_default : goal.returns-in_default
unfolding line_reply line_rules has_form is_number
returns-in_default c =
    let line = c.args.line.now in
    let p = position_from_yields_List (λ b. eqb b space) _ _ c.position.result c.position.ensures.ran (YieldsList-from_slice _ c.iter.ensures.rest) (λ x b q k. search (rules, tests)) in
    let none = rw c.in_default.is at (space_found line c.position.result p) in
    rw (le-leb (length line) longest_tap (omega arith), none) (sym (none_of (is_number (before_space line)) _ _))

pub returns : goal.returns
unfolding coordinate_of line_reply line_rules has_form x_of y_of
returns c =
    let line = c.args.line.now in
    let p = position_from_yields_List (λ b. eqb b space) _ _ c.position.result c.position.ensures.ran (YieldsList-from_slice _ c.iter.ensures.rest) (λ x b q k. search (rules, tests)) in
    let before = (rw c.in-Some.is at (space_found line c.position.result p)).1 in
    let next : length (before_space line) + 1 ≡ suc (length (before_space line)) = omega arith in
    rw (
      le-leb (length line) longest_tap (omega arith),
      c.point_of.ensures,
      c.read_coordinate-2.ensures,
      c.read_coordinate.ensures,
      rest_is,
      before,
      next,
      before_is line,
      after_is line,
    )
    (both_read (is_number (before_space line)) _ (is_number (after_space line)) _ _ _)
