-- `conic::point_on_sheet` meets its contract. Assumes nothing.
use lib.IntN.{ℤ, pos, ◌-ℤ◌}
use mir.Syntax.{w32, w64}
use mir.Val.{SFits, to_z, of_z}
use mir.Facts.{to_z-of_z}
use Rattle.arith.specs.Bounds.{Size}
use Rattle.arith.proofs.Parts.{linear}
use Rattle.arith.proofs.Order.{true_lt}
use Rattle.arith.proofs.Size.{size_neg}
use Rattle.arith.proofs.Fits.{Range, plain, r_bits, r_sub}
use Rattle.trig.specs.Trig.{ONE, sine_limit}
use Rattle.cone.specs.Cone.{sine_at, cosine_at, not_left, not_right}
use Rattle.cone.proofs.Sizes.{sine_at-size, cosine_at-size}
use Rattle.sheet.specs.Sheets.{n}
use Rattle.sheet.proofs.Fields.{typed, wide}
use Rattle.conic.specs.MapToGlobe.{point_on_sheet}
use Rattle.conic.proofs.Ranges.{n_size, w_size}
use Rattle.conic.proofs.point_on_sheet.Goals as goal
use Rattle.conic.proofs.point_on_sheet.Goals.{Start}

abbrev radius-of : {g f : ℤ} → SFits w32 g → SFits w32 f → Range (to_z w64 (of_z w64 (to_z w32 (of_z w32 g))) -ℤ to_z w64 (of_z w64 (to_z w32 (of_z w32 f))))
radius-of g f = r_sub (wide g) (wide f)

at_edge : (s : Start) (d : ℤ) → Size (pos 60000000) d → let a = s.args in
    Size (pos sine_limit) (sine_at (n a.checked.sheet) d) × Size ONE (cosine_at (n a.checked.sheet) d)
at_edge s d d_size =
    let n-up-to = n_size s.args.checked.sheet s.args.checked.passes in
    (sine_at-size _ d n-up-to d_size, cosine_at-size _ d n-up-to d_size)

pub is_not_left_unchecked-requires : goal.is_not_left_unchecked-requires
is_not_left_unchecked-requires c =
    let s = (goal.at.is_not_left_unchecked-requires c).Start in
    let e = at_edge s _ (size_neg (w_size s.args.checked.sheet s.args.checked.passes)) in
    rw s.requires.edges_value (record { size = e.0; size_2 = e.1 })

pub is_not_right_unchecked-requires : goal.is_not_right_unchecked-requires
is_not_right_unchecked-requires c =
    let s = (goal.at.is_not_right_unchecked-requires c).Start in
    let e = at_edge s _ (w_size s.args.checked.sheet s.args.checked.passes) in
    rw s.requires.edges_value (record { size = e.0; size_2 = e.1 })

pub returns : goal.returns
unfolding point_on_sheet not_left not_right
returns c =
    let s = (goal.at.returns c).Start in
    let t = typed {s = s.args.checked.sheet} c.struct_told-2-1.given in
    rw (
      c.is_not_right_unchecked.ensures,
      c.is_not_left_unchecked.ensures,
      s.requires.edges_value,
      to_z-of_z s.ranges.r,
      plain (r_bits w64 (radius-of t.g t.fn)) tt,
      plain (r_bits w64 (radius-of t.g t.fs)) tt,
      s.requires.r_value,
      true_lt {a = pos 0} {b = s.args.point.v} (omega (linear, s.args.point.v_range)),
    )
