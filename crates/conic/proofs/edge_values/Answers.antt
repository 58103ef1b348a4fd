-- `conic::edge_values` meets its contract: west and east mirror. Assumes nothing.
use mathlib.Core.Bool.{true}
use mathlib.Core.Path.{◌≡◌, ◌∙◌, ap, sym}
use Prim.Native.Nat.{◌≤◌}
use lib.IntN.{pos, neg_ℤ, ◌-ℤ◌, +ℤ_idl}
use mir.Syntax.{w32, w64}
use mir.Val.{to_z, of_z}
use Rattle.arith.specs.Bounds.{Within}
use Rattle.arith.proofs.Parts.{linear}
use Rattle.arith.proofs.Fits.{Range, fits, plain, lit, nat_bits, within, via, r_bits, r_sub}
use Rattle.trig.specs.Trig.{ONE}
use Rattle.cone.specs.Cone.{sine_at, sine_cosine_at}
use Rattle.cone.proofs.Sizes.{sine_at-size, cosine_at-size}
use Rattle.cone.proofs.Directions.{sine_at-neg, cosine_at-neg}
use Rattle.sheet.specs.declared.Sheet.{Sheet}
use Rattle.sheet.specs.Sheets.{f0, w, n, g, passes_checks}
use Rattle.sheet.proofs.Fields.{Typed, typed, wide}
use Rattle.conic.proofs.Ranges.{limits, n_size, w_size}
use Rattle.conic.proofs.edge_values.Goals as goal
use Rattle.conic.proofs.edge_values.Goals.{After-sine_cosine_unchecked-east}

abbrev width : (s : Sheet) → passes_checks s ≡ true → Range (to_z w64 s.half_width)
width s passes = let w_most : s.half_width ≤ 60000000 = omega (linear, (limits s passes).w_most) in nat_bits w64 w_most

module _ (c : After-sine_cosine_unchecked-east) where
  abbrev sheet : Sheet
  sheet = c.args.checked.sheet

  n_within : Within (pos 0) ONE (n sheet)
  n_within = let l = limits sheet c.args.checked.passes in omega linear

  east-is : c.sine_cosine_unchecked-east.result ≡ sine_cosine_at (n sheet) (w sheet)
  east-is = rw (c.cone.ensures.constant_value, plain (width c.args.checked.sheet c.args.checked.passes) tt) at c.sine_cosine_unchecked-east.ensures

  abbrev sine : Range c.sine_cosine_unchecked-east.result.sine
  sine = via (ap (λ e. e.sine) east-is) (within (sine_at-size (n sheet) (w sheet) (n_size sheet c.args.checked.passes) (w_size sheet c.args.checked.passes)))

  abbrev cosine : Range c.sine_cosine_unchecked-east.result.cosine
  cosine = via (ap (λ e. e.cosine) east-is) (within (cosine_at-size (n sheet) (w sheet) (n_size sheet c.args.checked.passes) (w_size sheet c.args.checked.passes)))

  abbrev west-sine : Range (pos 0 -ℤ to_z w64 (of_z w64 c.sine_cosine_unchecked-east.result.sine))
  west-sine = r_sub (lit (pos 0)) (r_bits w64 sine)

abbrev origin-radius : {s : Sheet} → Typed s → Range (to_z w64 (of_z w64 (to_z w32 (of_z w32 (g s)))) -ℤ to_z w64 (of_z w64 (to_z w32 (of_z w32 (f0 s)))))
origin-radius t = r_sub (wide t.g) (wide t.f0)

pub sine_cosine_unchecked-east-requires : goal.sine_cosine_unchecked-east-requires
sine_cosine_unchecked-east-requires c = rw (plain (width c.args.checked.sheet c.args.checked.passes) tt) (w_size c.args.checked.sheet c.args.checked.passes)

-- sine and cosine at the edges

pub overflow_sub-west : goal.overflow_sub-west
overflow_sub-west c = fits (west-sine (goal.at.overflow_sub-west c).After-sine_cosine_unchecked-east) tt

pub returns : goal.returns
returns c =
    let e = (goal.at.returns c).After-sine_cosine_unchecked-east in
    let s = sheet e in
    let mirrored = plain (r_bits w64 (west-sine e)) tt ∙ +ℤ_idl (neg_ℤ (sine_at (n s) (w s))) ∙ sym (sine_at-neg (n s) (n_within e) (w s)) in
    let same = plain (r_bits w64 (cosine e)) tt ∙ sym (cosine_at-neg (n s) (n_within e) (w s)) in
    let r0-is = plain (r_bits w64 (origin-radius (typed {s = s} c.struct_told-4-1.given))) tt in
    λ i. record { origin_radius = r0-is i; «west» = record { sine = mirrored i; cosine = same i }; «east» = east-is e i }
