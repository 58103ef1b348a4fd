-- `sheet::offset_unchecked` meets its contract. Assumes nothing.
use mathlib.Core.Path.{ap, ◌∙◌}
use lib.IntN.{◌-ℤ◌}
use mir.Syntax.{w32, w64}
use mir.Val.{to_z, of_z}
use Rattle.arith.proofs.Fits.{Range, plain, back, r_bits, r_sub, bounded}
use Rattle.sheet.specs.Sheets.{m0, shifted, offset_of}
use Rattle.sheet.proofs.Fields.{Typed, typed, wide}
use Rattle.sheet.proofs.offset_unchecked.Goals as goal
use Rattle.sheet.proofs.offset_unchecked.Goals.{After-struct_told-1}

told : (c : After-struct_told-1) → Typed c.before.before.args.sheet
told c = typed c.struct_told-1.given

-- the longitude less m0, as the code has it

abbrev plain-offset : (c : After-struct_told-1) →
    Range (to_z w64 (of_z w64 c.before.before.args.longitude) -ℤ to_z w64 (of_z w64 (to_z w32 (of_z w32 (m0 c.before.before.args.sheet)))))
plain-offset c = r_sub (bounded w64 c.before.before.requires) (wide (told c).m0)

pub returns : goal.returns
unfolding offset_of
returns c = back w64 c.shift.result c.shift.type_inv ∙ c.shift.ensures ∙ ap shifted (plain (r_bits w64 (plain-offset c.before)) tt)
