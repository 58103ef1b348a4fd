-- `records::write_place_unchecked` meets its contract. Assumes nothing.
use mathlib.Core.Path.{◌≡◌, refl, ap, ◌∙◌}
use mathlib.Core.List.{◌∷◌, ◌++◌}
use borrow.Author.Rules.{rules}
use native.Mathlib.Omega.{arith}
use lib.ListN.{length}
use Rattle.little_endian.specs.Numbers.{numbers_bytes}
use Rattle.little_endian.proofs.Puts.{written_before}
use Rattle.records.specs.Records.{place_record}
use Rattle.records.proofs.write_place_unchecked.Goals as goal

pub returns : goal.returns
unfolding place_record
returns c =
    let name = c.args.place.«name» in
    let n : length name ≡ 16 = search rules in
    rw (c.put_bytes_unchecked.ensures, c.put_numbers_unchecked.ensures)
    (written_before _ _ name 2 21 refl (omega arith) ∙ ap (λ numbers. 2 ∷ (numbers_bytes numbers ++ name)) (search rules))
