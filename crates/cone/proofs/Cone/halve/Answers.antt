-- `cone::Cone::halve` meets its contract: each turn keeps the last lo of document 01's halving, wherever it cuts. Assumes nothing.
use mathlib.Core.Path.{◌≡◌, sym, ◌∙◌}
use mathlib.Core.Bool.{true, false, cond}
use Prim.Native.Nat.{ℕ, ◌≤◌, ◌<◌}
use lib.IntN.{ℤ, pos, nat_abs, ◌-ℤ◌}
use lib.Signed.{◌<ℤ◌}
use mir.Syntax.{w64}
use mir.Val.{to_z, of_z}
use Rattle.arith.specs.Bounds.{Within, Size}
use Rattle.arith.proofs.Parts.{linear, sub_parts}
use Rattle.arith.proofs.Order.{<ℤ→≤ℤ, abs_parts}
use Rattle.arith.proofs.Fits.{Range, back, within, lit, lt_no, r_bits, r_sub}
use Rattle.trig.specs.Trig.{ONE}
use Rattle.cone.specs.Cone.{IsV, sine_cosine_at, not_left, last_lo}
use Rattle.cone.proofs.Sizes.{sine_at-size, cosine_at-size}
use Rattle.cone.proofs.Halving.{last_lo-ends}
use Rattle.cone.proofs.Cuts.{last_lo-cut}
use Rattle.cone.proofs.Cone.halve.Invariants.{Between}
use Rattle.cone.proofs.Cone.halve.Goals as goal
use Rattle.cone.proofs.Cone.halve.Goals.{After-cut-mid, After-is_not_left_unchecked, After-sine_cosine_unchecked, At-loop-hi}

module _ {n w : ℕ} {x v lo hi : ℤ} (n_most : n ≤ 1073741824) (is-v : IsV v) (b : Between n w x v lo hi) (mid : ℤ) (above : lo <ℤ mid) (below : mid <ℤ hi) where
  mid-size : Size (pos 60000000) mid
  mid-size =
      let l = b.lo_size in
      let h = b.hi_size in
      omega linear

  turn : last_lo (pos n) x v lo hi ≡ cond (not_left (pos n) x v mid) (last_lo (pos n) x v mid hi) (last_lo (pos n) x v lo mid)
  turn =
      let n_within : Within (pos 0) ONE (pos n) = omega linear in
      last_lo-cut (pos n) x v lo mid hi n_within (omega (linear, is-v.low)) b.lo_size b.hi_size above below

  replaces-lo : not_left (pos n) x v mid ≡ true → Between n w x v mid hi
  replaces-lo e = record { lo_size = mid-size; hi_size = b.hi_size; order = <ℤ→≤ℤ below; same = sym (rw e at turn) ∙ b.same }

  replaces-hi : not_left (pos n) x v mid ≡ false → Between n w x v lo mid
  replaces-hi e = record { lo_size = b.lo_size; hi_size = mid-size; order = <ℤ→≤ℤ above; same = sym (rw e at turn) ∙ b.same }

  less-above : nat_abs (hi -ℤ mid) < nat_abs (hi -ℤ lo)
  less-above = omega (linear, sub_parts hi mid, abs_parts (hi -ℤ mid), sub_parts hi lo, abs_parts (hi -ℤ lo))

  less-below : nat_abs (mid -ℤ lo) < nat_abs (hi -ℤ lo)
  less-below = omega (linear, sub_parts mid lo, abs_parts (mid -ℤ lo), sub_parts hi lo, abs_parts (hi -ℤ lo))

module _ (c : At-loop-hi) where
  abbrev lo : ℤ
  lo = to_z w64 c.loop-hi.lo-bits

  abbrev hi : ℤ
  hi = to_z w64 c.loop-hi.hi-bits

  abbrev width : Range (hi -ℤ lo)
  width = r_sub (within c.loop-hi.invariant.hi_size) (within c.loop-hi.invariant.lo_size)

module _ (c : After-cut-mid) where
  abbrev mid : ℤ
  mid = c.cut-mid.result

  mid-is : to_z w64 (of_z w64 mid) ≡ mid
  mid-is = back w64 mid c.cut-mid.type_inv

  size : Size (pos 60000000) mid
  size = mid-size c.args.self.n_bound c.args.point.v_range c.loop-hi.invariant mid c.cut-mid.ensures.lower_bound c.cut-mid.ensures.upper_bound

at_mid : (c : After-sine_cosine_unchecked) → c.sine_cosine_unchecked.result ≡ sine_cosine_at (pos c.args.self.constant) c.cut-mid.result
at_mid c = rw (back w64 c.cut-mid.result c.cut-mid.type_inv) at c.sine_cosine_unchecked.ensures

test-is : (c : After-is_not_left_unchecked) → c.is_not_left_unchecked.result ≡ not_left (pos c.args.self.constant) c.args.point.x c.args.point.v c.cut-mid.result
unfolding not_left
test-is c = let e = rw (back w64 c.cut-mid.result c.cut-mid.type_inv) at c.sine_cosine_unchecked.ensures in rw e at c.is_not_left_unchecked.ensures

pub is_not_left_unchecked-requires : goal.is_not_left_unchecked-requires
is_not_left_unchecked-requires c =
    let n_size : Size ONE (pos c.args.self.constant) = omega (linear, c.args.self.n_bound) in
    let d_size = size (goal.at.is_not_left_unchecked-requires c).After-cut-mid in
    rw (at_mid c) (record { size = sine_at-size _ _ n_size d_size; size_2 = cosine_at-size _ _ n_size d_size })

-- the test of the code is that of the definition

pub loop-hi-preserved-then-is_not_left_unchecked : goal.loop-hi-preserved-then-is_not_left_unchecked
loop-hi-preserved-then-is_not_left_unchecked c =
    let at = goal.at.loop-hi-preserved-then-is_not_left_unchecked c in
    let cuts = c.cut-mid.ensures in
    rw (mid-is at.After-cut-mid) (replaces-lo c.args.self.n_bound c.args.point.v_range c.loop-hi.invariant _ cuts.lower_bound cuts.upper_bound (sym (test-is at.After-is_not_left_unchecked) ∙ c.if-is_not_left_unchecked.true))

pub loop-hi-preserved : goal.loop-hi-preserved
loop-hi-preserved c =
    let at = goal.at.loop-hi-preserved c in
    let cuts = c.cut-mid.ensures in
    rw (mid-is at.After-cut-mid) (replaces-hi c.args.self.n_bound c.args.point.v_range c.loop-hi.invariant _ cuts.lower_bound cuts.upper_bound (sym (test-is at.After-is_not_left_unchecked) ∙ c.if-is_not_left_unchecked.false))

pub returns : goal.returns
returns c =
    let k = (goal.at.returns c).At-loop-hi in
    let ends = last_lo-ends (pos c.args.self.constant) _ _ (lo k) (hi k) (lt_no (lit (pos 1)) (r_bits w64 (width k)) c.loop-hi-test.false tt) in
    sym ends ∙ c.loop-hi.invariant.same
