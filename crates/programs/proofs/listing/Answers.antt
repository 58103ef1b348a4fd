-- `programs::listing` meets its contract. Assumes nothing.
use mathlib.Core.Path.{sym, ◌∙◌}
use native.Mathlib.Omega.{arith}
use lib.ListN.{length-append}
use Rattle.refusal.proofs.Distinct.{not_zero}
use Rattle.little_endian.proofs.Puts.{put_append}
use Rattle.atlas_file.specs.Steps.{most_places}
use Rattle.atlas_file.specs.Reading.{places_read}
use Rattle.text.specs.Lines.{count_line}
use Rattle.programs.specs.Listing.{place_lines, listing_of}
use Rattle.programs.proofs.listing.Goals as goal

pub returns-in-Ok : goal.returns-in-Ok
unfolding listing_of
returns-in-Ok c =
    let p = c.in-Ok.places in
    let first = count_line p.count in
    let put = rw (c.count_line.ensures.1) at c.put-at.ensures in
    let e = c.put_places.ensures in
    let lines = place_lines (places_read p.bytes.now most_places) in
    rw (← c.in-Ok.ensures.accepted, p.accepted.good, ← p.counted) (
      omega (arith, e.0, put.0, length-append first lines),
      e.1 ∙ rw (put.1, put.0) (sym (put_append _ 0 first (omega (arith, c.count_line.ensures.0, c.put-at.auto.out)) lines)),
    )

pub returns-in-Err : goal.returns-in-Err
unfolding listing_of
returns-in-Err c = rw (← c.in-Err.ensures.refused, not_zero c.in-Err.why.refusal) (rw (c.file_refused_line.ensures.1) at c.put.ensures)
