-- `text::place_line` meets its contract. Assumes nothing.
use borrow.Author.Rules.{rules}
use Rattle.place.proofs.Fields.{Told, typed}
use Rattle.text.specs.Lines.{place_line}
use Rattle.text.proofs.Printed.{printed_32, signed_printed_32}
use Rattle.text.proofs.place_line.Goals as goal

pub returns : goal.returns
unfolding place_line
returns c =
    let told : Told c.args.place = search rules in
    let t = typed {p = c.args.place} told in
    rw (
      ← (printed_32 t.id),
      ← (signed_printed_32 t.latitude),
      ← (signed_printed_32 t.longitude),
      ← (signed_printed_32 t.x),
      ← (signed_printed_32 t.y),
      ← c.format.ensures.text,
      ← c.format-2.ensures.text,
      ← c.format-3.ensures.text,
      ← c.format-4.ensures.text,
      ← c.format-5.ensures.text,
    )
    c.row.ensures
