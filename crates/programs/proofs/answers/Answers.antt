-- `programs::answers` meets its contract. Each turn puts what is printed at a byte before what is still to be put. Assumes nothing.
use mathlib.Core.Path.{refl, ap, sym, ◌∙◌}
use Prim.Native.Nat.{◌+◌, ◌≤◌}
use native.Mathlib.Omega.{arith}
use lib.ListN.{length, get_or, take, drop_of_length-le, length-take, length-append}
use Rattle.little_endian.specs.Numbers.{put}
use Rattle.little_endian.proofs.Puts.{put_none, put_append}
use Rattle.programs.specs.Tapping.{printed_at}
use Rattle.programs.proofs.Answering.{begun_turn, printed_turn, taken_is}
use Rattle.programs.proofs.answers.Goals as goal

pub loop-byte-init : goal.loop-byte-init
loop-byte-init c = record {
  part = rw c.min.ensures (taken_is c.args.input.now);
  room = omega arith;
  begins = refl;
  ends = omega arith;
  holds = refl;
}

pub loop-byte-preserved : goal.loop-byte-preserved
loop-byte-preserved c =
    let l = c.loop-byte in
    let i = l.invariant in
    let a = c.args in
    let part = take c.min.result a.input.now in
    let e = c.feed.ensures.printed in
    let o = rw e.1 at c.put-to.ensures in
    let turn = printed_turn l.begun part l.byte-index c.loop-byte-test.true a.sheet a.table.now in
    let next = printed_at a.sheet a.table.now l.begun (get_or part l.byte-index 0) in
    let room : l.to + length next ≤ length l.out = omega (arith, e.0, i.room, c.min.ensures, length-take c.min.result a.input.now, c.loop-byte-test.true) in
    rw c.feed.ensures.begun (record {
      part = i.part;
      room = omega (arith, o.0, e.0, i.room);
      begins = sym (begun_turn l.begun part l.byte-index c.loop-byte-test.true) ∙ i.begins;
      ends = omega (arith, o.0, ap length turn ∙ length-append next _, i.ends);
      holds = rw (o.0, o.1) (sym (put_append l.out l.to next room _) ∙ ap (put l.out l.to) (sym turn) ∙ i.holds);
    })

pub returns : goal.returns
returns c =
    let l = c.loop-byte in
    let i = l.invariant in
    let part = take c.min.result c.args.input.now in
    let none = drop_of_length-le part {i = l.byte-index} (omega arith) in
    rw (← i.part) (record { begun = rw none at i.begins; printed = ((let e = rw none at i.ends in omega (arith, e)), rw (none, put_none) at i.holds) })
