-- `records::write_sheet_unchecked` meets its contract. Assumes nothing.
use mathlib.Core.Path.{ap, ◌∙◌}
use mathlib.Core.List.{◌∷◌}
use borrow.Author.Rules.{rules}
use native.Mathlib.Omega.{arith}
use lib.ListN.{length-set}
use Rattle.little_endian.specs.Numbers.{numbers_bytes}
use Rattle.little_endian.proofs.Puts.{written}
use Rattle.records.specs.Records.{sheet_record}
use Rattle.records.proofs.SheetRecords.{sheet_length}
use Rattle.records.proofs.write_sheet_unchecked.Goals as goal

pub put_numbers_unchecked-requires : goal.put_numbers_unchecked-requires
put_numbers_unchecked-requires c = simp length-set (omega (arith, sheet_length c.args.sheet))

pub returns : goal.returns
unfolding sheet_record
returns c =
    c.put_numbers_unchecked.ensures ∙ written _ _ 1 (c.requires ∙ sheet_length c.args.sheet) ∙ ap (λ numbers. 1 ∷ numbers_bytes numbers) (search rules)
