-- `trig::root_from_below` meets its contract. Assumes nothing.
use mathlib.Core.Path.{◌≡◌, ap, ◌∙◌}
use Prim.Native.Nat.{ℕ, ◌+◌, ◌*◌, ◌-◌, ◌^◌, ◌≤◌, ◌<◌}
use lib.IntN.{pos, nat_abs, ◌-ℤ◌, ◌*ℤ◌}
use mir.Syntax.{w64}
use mir.Val.{to_z, of_z}
use mir.Facts.{to_z-of_z}
use Rattle.arith.specs.Bounds.{Within}
use Rattle.arith.proofs.Parts.{linear, sub_parts}
use Rattle.arith.proofs.Order.{abs_parts}
use Rattle.arith.proofs.Fits.{Range, plain, bounded, lit, r_bits, r_add, r_sub, r_mul, lt_yes, lt_no}
use Rattle.trig.specs.Trig.{rounded, root_of}
use Rattle.trig.proofs.Roots.{below_most, root_by_below, rounded-up, rounded-down}
use Rattle.trig.proofs.root_from_below.Goals as goal
use Rattle.trig.proofs.root_from_below.Goals.{After-isqrt-below}

module _ (c : After-isqrt-below) where
  abbrev q : ℕ
  q = nat_abs c.before.args.q

  abbrev n : ℕ
  n = c.isqrt-below.ensures.0

  is : c.isqrt-below.result ≡ pos n
  is = c.isqrt-below.ensures.1

  low : n * n ≤ q
  low = rw (to_z-of_z c.before.ranges.q) at c.isqrt-below.ensures.2

  high : q < (n + 1) * (n + 1)
  high = rw (to_z-of_z c.before.ranges.q) at c.isqrt-below.ensures.3

  most : n ≤ 2 ^ 30
  most =
      let r = c.before.requires in
      let a = abs_parts c.before.args.q in
      below_most q n (omega (linear, r.low, r.high, a)) low

  below-within : Within (pos 0) (pos 1073741824) c.isqrt-below.result
  below-within = rw is (let k = most in omega linear)

  abbrev below : Range (to_z w64 (of_z w64 c.isqrt-below.result))
  below = bounded w64 below-within

  abbrev remainder : Range (to_z w64 (of_z w64 (to_z w64 (of_z w64 c.before.args.q) -ℤ to_z w64 (of_z w64 (to_z w64 (of_z w64 c.isqrt-below.result) *ℤ to_z w64 (of_z w64 c.isqrt-below.result))))))
  remainder = r_bits w64 (r_sub (bounded w64 c.before.requires) (r_bits w64 (r_mul below below)))

  root-of : pos (rounded n (q - n * n)) ≡ pos (root_of q)
  root-of = root_by_below c.before.args.q n c.before.requires low high

pub returns-then-q-below : goal.returns-then-q-below
returns-then-q-below c =
    let b = c.before in
    let k = rw (is b) at (lt_yes (below b) (remainder b) c.if-q-below.true tt) in
    let a = abs_parts b.before.args.q in
    let m = sub_parts b.before.args.q (pos (n b * n b)) in
    let r = b.before.requires in
    plain (r_bits w64 (r_add (below b) (lit (pos 1)))) tt
    ∙ rw (is b) (ap pos (rounded-up (n b) (q b - n b * n b) (omega (linear, k, a, m, r.low, low b))) ∙ root-of b)

pub returns-else-q-below : goal.returns-else-q-below
returns-else-q-below c =
    let b = c.before in
    let k = rw (is b) at (lt_no (below b) (remainder b) c.if-q-below.false tt) in
    let a = abs_parts b.before.args.q in
    let m = sub_parts b.before.args.q (pos (n b * n b)) in
    let r = b.before.requires in
    plain (below b) tt
    ∙ rw (is b) (ap pos (rounded-down (n b) (q b - n b * n b) (omega (linear, k, a, m, r.low, low b))) ∙ root-of b)
