-- `sheet::shift` meets its contract. Assumes nothing.
use mathlib.Core.Path.{◌≡◌}
use mathlib.Core.Bool.{true, false}
use lib.IntN.{ℤ, pos, negsuc, ◌+ℤ◌, ◌-ℤ◌}
use lib.Signed.{lt_z}
use mir.Syntax.{w64}
use mir.Val.{SFits, to_z, of_z}
use mir.Facts.{to_z-of_z}
use Rattle.arith.proofs.Order.{lt_true, lt_false, <ℤ→≤ℤ}
use Rattle.arith.proofs.Fits.{Range, plain, between, lit, r_bits, r_add}
use Rattle.arith.proofs.Range.{sfits_low, sfits_high}
use Rattle.sheet.specs.Sheets.{shifted}
use Rattle.sheet.proofs.shift.Goals as goal
use Rattle.sheet.proofs.shift.Goals.{Else-a-ltminus180000000, Then-a-ltminus180000000}

module _ (a : ℤ) (f : SFits w64 a) where
  abbrev up : lt_z a (negsuc 179999999) ≡ true → Range (to_z w64 (of_z w64 a) +ℤ pos 360000000)
  up h = r_add (r_bits w64 (between {l = negsuc 9223372036854775807} {h = negsuc 179999999} (sfits_low w64 a f.sfits) (<ℤ→≤ℤ (lt_true h)))) (lit (pos 360000000))

  abbrev down : lt_z a (pos 180000000) ≡ false → Range (to_z w64 (of_z w64 a) -ℤ pos 360000000)
  down h = r_add (r_bits w64 (between {l = pos 180000000} {h = pos 9223372036854775807} (lt_false h) (sfits_high w64 a f.sfits))) (lit (negsuc 359999999))

below : (c : Then-a-ltminus180000000) → lt_z c.before.args.a (negsuc 179999999) ≡ true
below c = rw (to_z-of_z c.before.ranges.a) at c.if-a-ltminus180000000.true

not-below : (c : Else-a-ltminus180000000) → lt_z c.before.args.a (negsuc 179999999) ≡ false
not-below c = rw (to_z-of_z c.before.ranges.a) at c.if-a-ltminus180000000.false

pub returns-then-a-ltminus180000000 : goal.returns-then-a-ltminus180000000
unfolding shifted
returns-then-a-ltminus180000000 c = rw (below c) (plain (r_bits w64 (up c.before.args.a c.before.ranges.a (below c))) tt)

pub returns-then-a-lt180000000 : goal.returns-then-a-lt180000000
unfolding shifted
returns-then-a-lt180000000 c =
    let f = to_z-of_z c.before.before.ranges.a in
    rw (not-below c.before, rw f at c.if-a-lt180000000.true, f)

pub returns-else-a-lt180000000 : goal.returns-else-a-lt180000000
unfolding shifted
returns-else-a-lt180000000 c =
    let s = c.before.before in
    let above = rw (to_z-of_z s.ranges.a) at c.if-a-lt180000000.false in
    rw (not-below c.before, above) (plain (r_bits w64 (down s.args.a s.ranges.a above)) tt)
