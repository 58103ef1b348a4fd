-- `conic::position_at` meets its contract. Assumes nothing.
use mathlib.Core.Path.{◌≡◌, ◌∙◌, sym}
use lib.IntN.{◌+ℤ◌, ◌-ℤ◌}
use mir.Syntax.{w32, w64}
use mir.Val.{to_z, of_z}
use Rattle.arith.proofs.Fits.{Range, plain, back, r_bits, r_add, r_sub, bounded}
use Rattle.sheet.specs.declared.Sheet.{Sheet}
use Rattle.sheet.specs.Sheets.{m0, g, on_sheet}
use Rattle.sheet.proofs.Fields.{typed, wide}
use Rattle.conic.specs.MapToGlobe.{latitude_at, longitude_at}
use Rattle.conic.proofs.position_at.Goals as goal
use Rattle.conic.proofs.position_at.Goals.{After-on_sheet}

module _ (c : After-on_sheet) where
  abbrev sheet : Sheet
  sheet = c.args.sheet

  abbrev latitude : Range (to_z w64 (of_z w64 (to_z w32 (of_z w32 (g sheet)))) -ℤ to_z w64 (of_z w64 c.args.r))
  latitude = r_sub (wide (typed {s = sheet} c.struct_told-1.given).g) (bounded w64 c.requires.size)

  abbrev unshifted : Range (to_z w64 (of_z w64 (to_z w32 (of_z w32 (m0 sheet)))) +ℤ to_z w64 (of_z w64 c.args.d))
  unshifted = r_add (wide (typed {s = sheet} c.struct_told-2-1.given).m0) (bounded w64 c.requires.size_2)

  latitude-is : to_z w64 (of_z w64 (to_z w64 (of_z w64 (to_z w32 (of_z w32 (g sheet)))) -ℤ to_z w64 (of_z w64 c.args.r))) ≡ latitude_at sheet c.args.r
  latitude-is = plain (r_bits w64 latitude) tt

  longitude-is : to_z w64 (of_z w64 c.shift-longitude.result) ≡ longitude_at sheet c.args.d
  longitude-is =
      let k = c.shift-longitude in
      back w64 k.result k.type_inv ∙ rw (plain (r_bits w64 unshifted) tt) at k.ensures

  held_is : c.on_sheet.result ≡ on_sheet sheet (latitude_at sheet c.args.r) (longitude_at sheet c.args.d)
  held_is = rw (latitude-is, longitude-is) at c.on_sheet.ensures

pub returns-then-not-on_sheet : goal.returns-then-not-on_sheet
returns-then-not-on_sheet c = let k = (goal.at.returns-then-not-on_sheet c).After-on_sheet in rw (sym (held_is k) ∙ c.if-not-on_sheet.true)

pub returns : goal.returns
returns c =
    let k = (goal.at.returns c).After-on_sheet in
    rw (latitude-is k, longitude-is k, sym (held_is k) ∙ c.if-not-on_sheet.false)
