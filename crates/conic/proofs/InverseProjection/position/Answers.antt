-- `conic::InverseProjection::position` meets its contract. Assumes nothing.
use mathlib.Core.Path.{◌≡◌, refl, ap, sym, ◌∙◌}
use mathlib.Core.Bool.{true, false, ◌&&◌}
use lib.IntN.{pos, ◌-ℤ◌}
use mir.Syntax.{w64}
use mir.Val.{to_z, of_z}
use mir.Facts.{to_z-of_z}
use Rattle.arith.specs.Bounds.{Size}
use Rattle.arith.proofs.Parts.{linear}
use Rattle.arith.proofs.Order.{false_lt}
use Rattle.arith.proofs.Tests.{said, facts}
use Rattle.arith.proofs.Fits.{Range, fits, plain, within, via, lit, back, le_yes, le_no, r_bits, r_sub, bounded}
use Rattle.cone.specs.Cone.{IsV}
use Rattle.cone.specs.Settled.{least_rise}
use Rattle.cone.proofs.Sizes.{least_rise-size}
use Rattle.sheet.specs.Sheets.{n, w}
use Rattle.conic.specs.Conic.{r0}
use Rattle.conic.specs.MapToGlobe.{point_limit, point_in_range, v_of, point_on_sheet, latitude_of, longitude_of}
use Rattle.conic.proofs.Ranges.{n_size, w_size, r0_size}
use Rattle.conic.proofs.OwnSheet.{r_range, d_range, point_out_of_range, point_off_sheet, point_held}
use Rattle.conic.proofs.Distance.{v_range}
use lib.Signed.{le_z}
use Rattle.conic.proofs.InverseProjection.position.Goals as goal
use Rattle.conic.proofs.InverseProjection.position.Goals.{After-size_up_to-2, Start}

in-range-is : (c : After-size_up_to-2) → (c.size_up_to.result && c.size_up_to-2.result) ≡ point_in_range c.args.x c.args.y
in-range-is c = rw (c.size_up_to.ensures, c.size_up_to-2.ensures, to_z-of_z c.ranges.x, to_z-of_z c.ranges.y)

-- ---- v

module _ (s : Start) (in_range : point_in_range s.args.x s.args.y ≡ true) where
  sizes : Size (pos point_limit) s.args.x × Size (pos point_limit) s.args.y
  sizes = let t = facts in_range (search said depth 9) in omega linear

  r0-is : s.args.self.now.values.edges.origin_radius ≡ r0 s.args.self.now.checked.sheet
  r0-is = ap (λ e. e.edges.origin_radius) s.args.self.now.own

  rise-is : to_z w64 (of_z w64 s.args.self.now.values.least_rise) ≡ least_rise (n s.args.self.now.checked.sheet) (w s.args.self.now.checked.sheet)
  rise-is =
      let sheet = s.args.self.now.checked.sheet in
      let size = least_rise-size (n sheet) (w sheet) (n_size sheet s.args.self.now.checked.passes) (w_size sheet s.args.self.now.checked.passes) in
      plain (r_bits w64 (via (ap (λ e. e.least_rise) s.args.self.now.own) (within size))) tt

  -- as the code has it
  abbrev v : Range (to_z w64 (of_z w64 s.args.self.now.values.edges.origin_radius) -ℤ to_z w64 (of_z w64 s.args.y))
  v = r_sub (r_bits w64 (via r0-is (within (r0_size s.args.self.now.checked.sheet s.args.self.now.checked.passes)))) (bounded w64 sizes.1)

  v-is : to_z w64 (of_z w64 (to_z w64 (of_z w64 s.args.self.now.values.edges.origin_radius) -ℤ to_z w64 (of_z w64 s.args.y))) ≡ v_of s.args.self.now.checked.sheet s.args.y
  v-is = plain (r_bits w64 v) tt

  is-v : le_z (to_z w64 (of_z w64 (to_z w64 (of_z w64 s.args.self.now.values.edges.origin_radius) -ℤ to_z w64 (of_z w64 s.args.y)))) (pos 0) ≡ false → IsV (v_of s.args.self.now.checked.sheet s.args.y)
  is-v above = v_range s.args.self.now.checked.sheet s.args.y s.args.self.now.checked.passes sizes.1 (le_no (r_bits w64 v) (lit (pos 0)) above tt)

pub overflow_sub-v : goal.overflow_sub-v
overflow_sub-v c = let s = (goal.at.overflow_sub-v c).Start in fits (v s (sym (in-range-is (goal.at.overflow_sub-v c).After-size_up_to-2) ∙ c.if-not-size_up_to.false)) tt

-- ---- a point below the cone's apex

pub invariant_of-point : goal.invariant_of-point
invariant_of-point c =
    let at = goal.at.invariant_of-point c in
    let s = at.Start in
    let q = sym (in-range-is at.After-size_up_to-2) ∙ c.if-not-size_up_to.false in
    record { x_range = rw (to_z-of_z s.ranges.x) (sizes s q).0; v_range = rw (v-is s q) (is-v s q c.if-v-le0.false) }

pub point_on_sheet-requires : goal.point_on_sheet-requires
point_on_sheet-requires c =
    let at = goal.at.point_on_sheet-requires c in
    let s = at.Start in
    let q = sym (in-range-is at.After-size_up_to-2) ∙ c.if-not-size_up_to.false in
    let r = c.radius-r in
    let radius = back w64 r.result r.type_inv ∙ rw (to_z-of_z s.ranges.x, v-is s q) at r.ensures in
    rw (radius, to_z-of_z s.ranges.x, v-is s q) (record { edges_value = ap (λ e. e.edges) s.args.self.now.own; r_value = refl })

-- ---- a point on the sheet

pub offset_unchecked-d-requires : goal.offset_unchecked-d-requires
offset_unchecked-d-requires c =
    let at = goal.at.offset_unchecked-d-requires c in
    let s = at.Start in
    let q = sym (in-range-is at.After-size_up_to-2) ∙ c.if-not-size_up_to.false in
    let cone = c.cone-cone.ensures in
    rw (cone.constant_value, cone.half_width_value) (rise-is s q)

pub position_at-requires : goal.position_at-requires
position_at-requires c =
    let at = goal.at.position_at-requires c in
    let s = at.Start in
    let q = sym (in-range-is at.After-size_up_to-2) ∙ c.if-not-size_up_to.false in
    let f = c.radius-r in
    let radius = back w64 f.result f.type_inv ∙ rw (to_z-of_z s.ranges.x, v-is s q) at f.ensures in
    let o = c.offset_unchecked-d in
    let cone = c.cone-cone.ensures in
    let offset = back w64 o.result o.type_inv ∙ rw (to_z-of_z s.ranges.x, v-is s q, cone.constant_value, cone.half_width_value) at o.ensures in
    let on = sym (rw (to_z-of_z s.ranges.x, v-is s q) at c.point_on_sheet.ensures) ∙ c.if-not-point_on_sheet.false in
    let r = r_range s.args.self.now.checked.sheet s.args.x s.args.y s.args.self.now.checked.passes on in
    let d = d_range s.args.self.now.checked.sheet s.args.x s.args.y s.args.self.now.checked.passes on in
    rw (radius, offset) (record { size = omega linear; size_2 = omega linear })

pub returns : goal.returns
unfolding latitude_of longitude_of
returns c =
    let at = goal.at.returns c in
    let s = at.Start in
    let q = sym (in-range-is at.After-size_up_to-2) ∙ c.if-not-size_up_to.false in
    let f = c.radius-r in
    let radius = back w64 f.result f.type_inv ∙ rw (to_z-of_z s.ranges.x, v-is s q) at f.ensures in
    let o = c.offset_unchecked-d in
    let cone = c.cone-cone.ensures in
    let offset = back w64 o.result o.type_inv ∙ rw (to_z-of_z s.ranges.x, v-is s q, cone.constant_value, cone.half_width_value) at o.ensures in
    let on = sym (rw (to_z-of_z s.ranges.x, v-is s q) at c.point_on_sheet.ensures) ∙ c.if-not-point_on_sheet.false in
    rw (point_held s.args.self.now.checked.sheet s.args.x s.args.y s.args.self.now.checked.passes q on)
    (rw (radius, offset) at c.position_at.ensures)

-- ---- the refusals

pub returns-then-not-point_on_sheet : goal.returns-then-not-point_on_sheet
returns-then-not-point_on_sheet c =
    let at = goal.at.returns-then-not-point_on_sheet c in
    let s = at.Start in
    let q = sym (in-range-is at.After-size_up_to-2) ∙ c.if-not-size_up_to.false in
    let off = sym (rw (to_z-of_z s.ranges.x, v-is s q) at c.point_on_sheet.ensures) ∙ c.if-not-point_on_sheet.true in
    sym (point_off_sheet s.args.self.now.checked.sheet s.args.x s.args.y s.args.self.now.checked.passes q off)

pub returns-then-v-le0 : goal.returns-then-v-le0
unfolding point_on_sheet
returns-then-v-le0 c =
    let at = goal.at.returns-then-v-le0 c in
    let s = at.Start in
    let q = sym (in-range-is at.After-size_up_to-2) ∙ c.if-not-size_up_to.false in
    let below = le_yes (r_bits w64 (v s q)) (lit (pos 0)) c.if-v-le0.true tt in
    sym (point_off_sheet s.args.self.now.checked.sheet s.args.x s.args.y s.args.self.now.checked.passes q (rw (false_lt below)))

pub returns-then-not-size_up_to : goal.returns-then-not-size_up_to
returns-then-not-size_up_to c =
    let at = goal.at.returns-then-not-size_up_to c in
    sym (point_out_of_range c.args.self.now.checked.sheet c.args.x c.args.y c.args.self.now.checked.passes (sym (in-range-is at.After-size_up_to-2) ∙ c.if-not-size_up_to.true))
