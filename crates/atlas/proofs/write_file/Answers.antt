-- `atlas::write_file` meets its contract. Assumes nothing.
use native.Mathlib.Omega.{arith}
use Rattle.atlas.proofs.BufferParts.{all_written}
use Rattle.atlas.proofs.write_file.Goals as goal

pub returns : goal.returns
returns c =
    let s = c in
    let first = c.sheet_record_length-first in
    let h = c.write_sheet_unchecked in
    let places = c.write_places-at in
    let end = c.write_end_unchecked in
    all_written s.args.sheet s.args.table.now s.args.buffer.now h.new.part places.new.buffer end.new.part first.result places.result
    first.ensures places.ensures.0 (omega arith) h.ensures places.auto.buffer places.ensures.1 end.ensures
