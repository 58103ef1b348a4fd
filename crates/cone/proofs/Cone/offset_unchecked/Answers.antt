-- `cone::Cone::offset_unchecked` meets its contract: the guess settles the offset, or the halving finds it. Assumes nothing.
use mathlib.Core.Path.{◌≡◌, ◌∙◌, sym, ap}
use lib.IntN.{ℤ, pos, neg_ℤ, ◌-ℤ◌, ◌*ℤ◌}
use lib.Signed.{◌≤ℤ◌, ◌<ℤ◌}
use mir.Syntax.{w64}
use mir.Val.{to_z, of_z}
use Rattle.arith.specs.Bounds.{Within, Size}
use Rattle.arith.proofs.Parts.{linear, sub_parts, neg_parts}
use Rattle.arith.proofs.Order.{lt_true, lt_false}
use Rattle.arith.proofs.Tests.{facts, said}
use Rattle.arith.proofs.Fits.{Range, ranges, fits, plain, back, bounded, lit, nat_bits, r_bits, r_sub, r_mul}
use Rattle.trig.specs.Trig.{ONE}
use Rattle.cone.specs.declared.Cone.{Cone}
use Rattle.cone.specs.declared.ConePoint.{ConePoint}
use Rattle.cone.specs.Settled.{east_of, least_rise}
use Rattle.cone.proofs.Sizes.{least_rise-size}
use Rattle.cone.proofs.Settling.{settled_here, settled_before}
use Rattle.cone.proofs.Cone.offset_unchecked.Goals as goal
use Rattle.cone.proofs.Cone.offset_unchecked.Goals.{Then-margin-east, Then-width-near}

module _ (k : Cone) where
  abbrev n : ℤ
  n = pos k.constant

  abbrev w : ℤ
  w = pos k.half_width

  n_within : Within (pos 0) ONE n
  n_within = let h = k.n_bound in omega linear

  w_most : w ≤ℤ pos 60000000
  w_most = let h = k.w_bound in omega linear

  abbrev minus-width : Range (pos 0 -ℤ to_z w64 k.half_width)
  minus-width = r_sub (lit (pos 0)) (nat_bits w64 k.w_bound)

v-least : (p : ConePoint) → pos 0 ≤ℤ p.v
v-least p = let h = p.v_range in omega linear

module _ (k : Cone) (p : ConePoint) (rise : ℤ) (rise-is : rise ≡ least_rise (n k) (w k)) where
  rise-size : Size (pos 100) rise
  rise-size =
      let n_size : Size ONE (n k) = omega (linear, k.n_bound) in
      let w_size : Size (pos 60000000) (w k) = omega (linear, k.w_bound) in
      rw rise-is (least_rise-size (n k) (w k) n_size w_size)

  abbrev margin : Range (to_z w64 (of_z w64 p.v) *ℤ to_z w64 (of_z w64 rise))
  margin = r_mul (bounded w64 p.v_range) (bounded w64 rise-size)

  abbrev minus-margin : Range (pos 0 -ℤ to_z w64 (of_z w64 (to_z w64 (of_z w64 p.v) *ℤ to_z w64 (of_z w64 rise))))
  minus-margin = r_sub (lit (pos 0)) (r_bits w64 margin)

module _ (c : Then-width-near) where
  abbrev near : ℤ
  near = c.offset-near.result

  near-is : to_z w64 (of_z w64 near) ≡ near
  near-is = back w64 near c.offset-near.type_inv

  inside : (neg_ℤ (w c.args.self) <ℤ near) × (near <ℤ w c.args.self)
  inside =
      let k = c.args.self in
      let f = rw (plain (r_bits w64 (minus-width k)) tt, near-is, plain (nat_bits w64 k.w_bound) tt) at (facts c.if-width-near.true (search said depth 9)) in
      (omega (linear, f.0, sub_parts (pos 0) (w k), neg_parts (w k)), f.1)

  near-size : Size (pos 60000000) near
  near-size = let i = inside in omega (linear, w_most c.args.self, neg_parts (w c.args.self))

  abbrev before-it : Range (to_z w64 (of_z w64 near) -ℤ pos 1)
  before-it = r_sub (bounded w64 near-size) (lit (pos 1))

module _ (c : Then-margin-east) where
  abbrev east : ℤ
  east = east_of (n c.args.self) c.args.point.x c.args.point.v c.offset-near.result

  east-is : to_z w64 (of_z w64 c.east_of-east.result) ≡ east
  east-is = let e = c.east_of-east in back w64 e.result e.type_inv ∙ rw (back w64 c.offset-near.result c.offset-near.type_inv) at e.ensures

  near-enough : let m = c.args.point.v *ℤ least_rise (n c.args.self) (w c.args.self) in ((pos 0 -ℤ m) ≤ℤ east) × (east <ℤ m)
  near-enough =
      let a = c.args in
      let m = plain (r_bits w64 (margin a.self a.point a.rise c.requires)) tt ∙ ap (λ z. a.point.v *ℤ z) c.requires in
      let p = plain (r_bits w64 (minus-margin a.self a.point a.rise c.requires)) tt ∙ ap (λ z. pos 0 -ℤ a.point.v *ℤ z) c.requires in
      rw (p, m, east-is) at (facts c.if-margin-east.true (search said depth 9))

pub overflow_mul-margin : goal.overflow_mul-margin
overflow_mul-margin c = let a = c.args in fits (margin a.self a.point a.rise c.requires) tt

pub overflow_sub-margin : goal.overflow_sub-margin
overflow_sub-margin c = let a = c.args in fits (minus-margin a.self a.point a.rise c.requires) tt

-- the point lies near enough to it

pub overflow_sub-result : goal.overflow_sub-result
overflow_sub-result c = let size = near-size (goal.at.overflow_sub-result c).Then-width-near in fits (search ranges depth 9) tt

pub returns-then-east-lt0 : goal.returns-then-east-lt0
returns-then-east-lt0 c =
    let at = goal.at.returns-then-east-lt0 c in
    let g = at.Then-width-near in
    let t = at.Then-margin-east in
    let a = c.args in
    let i = inside g in
    plain (r_bits w64 (before-it g)) tt
    ∙ sym (settled_before (n a.self) a.point.x a.point.v (w a.self) (near g) (n_within a.self) (v-least a.point) (w_most a.self) i.0 i.1
    (rw (east-is t) at (lt_true {a = to_z w64 (of_z w64 c.east_of-east.result)} {b = pos 0} c.if-east-lt0.true)) (near-enough t).0)

pub returns-else-east-lt0 : goal.returns-else-east-lt0
returns-else-east-lt0 c =
    let at = goal.at.returns-else-east-lt0 c in
    let g = at.Then-width-near in
    let t = at.Then-margin-east in
    let a = c.args in
    let i = inside g in
    near-is g
    ∙ sym (settled_here (n a.self) a.point.x a.point.v (w a.self) (near g) (n_within a.self) (v-least a.point) (w_most a.self) i.0 i.1
    (rw (east-is t) at (lt_false {a = to_z w64 (of_z w64 c.east_of-east.result)} {b = pos 0} c.if-east-lt0.false)) (near-enough t).1)

-- else the halving
