-- `atlas::write_places` meets its contract. Assumes nothing.
use mathlib.Core.Path.{◌≡◌, refl, ap, ◌∙◌}
use Prim.Native.Nat.{◌+◌, ◌-◌, ◌<◌}
use native.Mathlib.Omega.{arith}
use lib.ListN.{length, take, drop, length-append, length-take, length-drop}
use Rattle.records.specs.Records.{place_record}
use Rattle.atlas_file.specs.Writing.{place_records}
use Rattle.atlas.proofs.BufferParts.{records_more, none_written, one_written}
use Rattle.atlas.proofs.write_places.Goals as goal

pub loop-k-init : goal.loop-k-init
unfolding place_records
loop-k-init c = record { here = omega arith; written = refl; parts = none_written c.args.table.now c.args.buffer.now c.args.first (omega arith) }

pub loop-k-preserved : goal.loop-k-preserved
loop-k-preserved c =
    let l = c.loop-k in
    let k = l.k in
    let table = c.args.table.now in
    let w = c.write_place_unchecked in
    let k<n : k < length table = omega arith in
    let record_is = w.ensures ∙ ap place_record c.place_at_unchecked-place.ensures in
    let as_lent : length w.new.part ≡ length (take (l.at + 37 - l.at) (drop l.at l.buffer)) = w.auto.part in
    let long : length w.new.part ≡ 37 = as_lent ∙ simp (length-take, length-drop) (omega (arith, l.auto.buffer)) in
    record {
      here = omega arith;
      written = rw (records_more table k k<n, ← record_is) (simp length-append (omega arith));
      parts = one_written table c.args.buffer.now c.args.first (omega arith) l.buffer w.new.part k l.at k<n l.invariant.here l.invariant.written l.invariant.parts record_is;
    }
