-- `conic::point_of` meets its contract. Assumes nothing.
use borrow.Author.Rules.{rules}
use mathlib.Core.Path.{◌≡◌, ◌∙◌}
use lib.IntN.{◌-ℤ◌}
use lib.Signed.{le_z_yes}
use mir.Syntax.{w32, w64}
use mir.Val.{to_z, of_z}
use mir.Facts.{to_z-of_z}
use Rattle.arith.proofs.Parts.{linear}
use Rattle.arith.proofs.Size.{size_wider}
use Rattle.arith.proofs.Fits.{Range, fits, plain, back, r_bits, r_sub, bounded}
use Rattle.sheet.specs.Sheets.{f0, g, offset_of}
use Rattle.sheet.proofs.Fields.{Typed, typed, wide}
use Rattle.conic.specs.Conic.{t_of, x_of, y_of}
use Rattle.conic.proofs.Ranges.{limits, r0_size, r_size, is_on_sheet, latitude-size, d_size, t_size}
use Rattle.conic.proofs.point_of.Goals as goal
use Rattle.conic.proofs.point_of.Goals.{After-cone_angle_unchecked-t, After-offset_unchecked-d, Start}

offset-is : (c : After-offset_unchecked-d) → to_z w64 (of_z w64 c.offset_unchecked-d.result) ≡ offset_of c.args.checked.sheet c.args.longitude
offset-is c = back w64 c.offset_unchecked-d.result c.offset_unchecked-d.type_inv ∙ rw (to_z-of_z c.ranges.longitude) at c.offset_unchecked-d.ensures

t-is : (c : After-cone_angle_unchecked-t) → to_z w64 (of_z w64 c.cone_angle_unchecked-t.result) ≡ t_of c.args.checked.sheet c.args.longitude
unfolding t_of
t-is c = back w64 c.cone_angle_unchecked-t.result c.cone_angle_unchecked-t.type_inv ∙ rw (offset-is c.before) at c.cone_angle_unchecked-t.ensures

module _ (s : Start) (t : Typed s.args.checked.sheet) where
  abbrev origin-radius : Range (to_z w64 (of_z w64 (to_z w32 (of_z w32 (g s.args.checked.sheet)))) -ℤ to_z w64 (of_z w64 (to_z w32 (of_z w32 (f0 s.args.checked.sheet)))))
  origin-radius = r_sub (wide t.g) (wide t.f0)

  abbrev radius : Range (to_z w64 (of_z w64 (to_z w32 (of_z w32 (g s.args.checked.sheet)))) -ℤ to_z w64 (of_z w64 s.args.latitude))
  radius = r_sub (wide t.g) (bounded w64 (latitude-size s.args.checked.sheet s.args.checked.passes s.args.latitude s.args.longitude s.requires))

pub offset_unchecked-d-requires : goal.offset_unchecked-d-requires
offset_unchecked-d-requires c = rw (to_z-of_z c.ranges.longitude) (is_on_sheet c.args.checked.sheet c.args.checked.passes c.args.latitude c.args.longitude c.requires).longitude_range

pub cone_angle_unchecked-t-requires : goal.cone_angle_unchecked-t-requires
cone_angle_unchecked-t-requires c =
    let s = (goal.at.cone_angle_unchecked-t-requires c).Start in record { n_bound = omega (linear, (limits s.args.checked.sheet s.args.checked.passes).n_most); size = rw (offset-is c) (size_wider (le_z_yes tt) (d_size s.args.checked.sheet s.args.checked.passes s.args.latitude s.args.longitude s.requires)) }

pub overflow_sub-g-2 : goal.overflow_sub-g-2
overflow_sub-g-2 c = fits (radius (goal.at.overflow_sub-g-2 c).Start (typed {s = c.args.checked.sheet} (search rules))) tt

pub point_at-requires : goal.point_at-requires
point_at-requires c =
    let s = (goal.at.point_at-requires c).Start in
    let a = s.args in record { size = rw (plain (r_bits w64 (origin-radius (goal.at.point_at-requires c).Start (typed {s = c.args.checked.sheet} (search rules)))) tt) (r0_size a.checked.sheet s.args.checked.passes); size_2 = rw (plain (r_bits w64 (radius (goal.at.point_at-requires c).Start (typed {s = c.args.checked.sheet} (search rules)))) tt) (r_size a.checked.sheet s.args.checked.passes a.latitude a.longitude s.requires); size_3 = rw (t-is (goal.at.point_at-requires c).After-cone_angle_unchecked-t) (t_size a.checked.sheet s.args.checked.passes a.latitude a.longitude s.requires) }

pub returns : goal.returns
unfolding x_of y_of
returns c = rw (plain (r_bits w64 (origin-radius (goal.at.returns c).Start (typed {s = c.args.checked.sheet} (search rules)))) tt, plain (r_bits w64 (radius (goal.at.returns c).Start (typed {s = c.args.checked.sheet} (search rules)))) tt, t-is (goal.at.returns c).After-cone_angle_unchecked-t) at c.point_at.ensures
