-- `sheet::blank` meets its contract. Assumes nothing.
use mathlib.Core.Path.{refl}
use Rattle.sheet.specs.Sheets.{blank_sheet}
use Rattle.sheet.proofs.blank.Goals as goal

pub returns : goal.returns
unfolding blank_sheet
returns c = refl
