-- `trig::series` meets its contract. The invariant: p is the value over the end of the row. Assumes nothing.
use mathlib.Core.Path.{◌≡◌, sym, ap, ap₂, refl, ◌∙◌}
use mathlib.Core.List.{List, [], ◌∷◌, ◌++◌}
use Prim.Native.Nat.{ℕ, ◌≤◌}
use native.Mathlib.Omega.{arith}
use lib.IntN.{ℤ, pos, ◌-ℤ◌, ◌*ℤ◌}
use lib.Signed.{quot_z}
use mir.Syntax.{w64}
use mir.Val.{to_z, of_z}
use mir.Facts.{to_z-of_z, to_z_pos}
use Rattle.std.proofs.Common.{append_assoc, append-nil}
use Rattle.std.specs.Iterator.Adapters.{rev_source}
use Rattle.std.specs.Slice.Iter.{iter_rest}
use Rattle.arith.proofs.Quote.{ring!, quote}
use Rattle.arith.proofs.Fits.{Range, fits, plain, within, via, lit, nat_bits, r_bits, r_sub, r_mul, bounded}
use Rattle.trig.specs.Trig.{ONE, IsRow, series_of}
use Rattle.trig.proofs.Sizes.{series-size, factor_at}
use Rattle.trig.proofs.series.Goals as goal
use Rattle.trig.proofs.series.Goals.{In-Some}

-- ---- a turn of the loop: p is the value over the factors that are done, and becomes the value over one more

module _ (c : In-Some) where
  abbrev z : ℤ
  z = c.args.z

  abbrev left : List ℕ
  left = iter_rest (rev_source c.next.new.self)

  abbrev f : ℕ
  f = c.in-Some.factor.now

  abbrev done : List ℕ
  done = c.loop-factor.invariant.done

  row-is : c.args.row ≡ left ++ f ∷ done
  row-is = rw (c.in-Some.ensures.steps, append_assoc) at c.loop-factor.invariant.row-is

  is_row : IsRow (left ++ f ∷ done)
  is_row = rw row-is at c.requires.row

  p-is : to_z w64 c.loop-factor.p-bits ≡ series_of done z
  p-is = rw (to_z-of_z c.ranges.z) at c.loop-factor.invariant.value

  factor : (2 ≤ f) × (f ≤ 156)
  factor = factor_at left f done is_row

  abbrev factor-range : Range (to_z w64 f)
  factor-range = nat_bits w64 factor.1

  abbrev value_range : Range (series_of (f ∷ done) z)
  value_range = within (series-size left (f ∷ done) z is_row c.requires.square)

  abbrev product-range : Range (to_z w64 (of_z w64 z) *ℤ to_z w64 c.loop-factor.p-bits)
  product-range = r_mul (bounded w64 c.requires.square) (via p-is (within (series-size (left ++ f ∷ []) done z (rw append_assoc is_row) c.requires.square)))

  -- the quotient as the code has it
  abbrev quotient : ℤ
  quotient = quot_z (to_z w64 (of_z w64 (to_z w64 (of_z w64 z) *ℤ to_z w64 c.loop-factor.p-bits))) (to_z w64 (of_z w64 (ONE *ℤ to_z w64 f)))

  quotient_is : quotient ≡ ONE -ℤ series_of (f ∷ done) z
  unfolding series_of
  quotient_is =
      let q = quot_z (z *ℤ series_of done z) (ONE *ℤ pos f) in
      ap₂ quot_z (plain (r_bits w64 product-range) tt) (plain (r_bits w64 (r_mul (lit ONE) factor-range)) tt) ∙ ring! (q ∷ []) (search quote depth 20) tt

  abbrev quotient-range : Range quotient
  quotient-range = via quotient_is (r_sub (lit ONE) value_range)

  abbrev next-range : Range (ONE -ℤ to_z w64 (of_z w64 quotient))
  next-range = r_sub (lit ONE) (r_bits w64 quotient-range)

  next-is : to_z w64 (of_z w64 (ONE -ℤ to_z w64 (of_z w64 quotient))) ≡ series_of (f ∷ done) z
  next-is = plain (r_bits w64 next-range) tt ∙ ring! (series_of (f ∷ done) z ∷ []) (search quote depth 20) tt

-- ---- the goals

pub loop-factor-init : goal.loop-factor-init
unfolding series_of
loop-factor-init c = record { done = []; row-is = cc (append-nil c.args.row); value = refl }

pub overflow_mul-p : goal.overflow_mul-p
overflow_mul-p c = fits (product-range c) tt

pub nonzero_div-p : goal.nonzero_div-p
nonzero_div-p c =
    let b = (goal.at.nonzero_div-p c).In-Some in
    let k = factor b in
    let e : to_z w64 (f b) ≡ pos (f b) = to_z_pos w64 (omega arith) in
    (rw e (omega arith), fits (quotient-range b) tt)

pub overflow_sub-p : goal.overflow_sub-p
overflow_sub-p c = fits (next-range (goal.at.overflow_sub-p c).In-Some) tt

pub loop-factor-preserved : goal.loop-factor-preserved
loop-factor-preserved c =
    let b = (goal.at.loop-factor-preserved c).In-Some in
    record { done = _; row-is = row-is b; value = next-is b ∙ ap (series_of _) (sym (to_z-of_z c.ranges.z)) }
