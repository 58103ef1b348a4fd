-- `little_endian::put_numbers_unchecked` meets its contract. Each turn puts a number before those still to be put. Assumes nothing.
use mathlib.Core.Path.{ap, ◌∙◌}
use native.Mathlib.Omega.{arith}
use lib.ListN.{drop_of_length-le}
use Rattle.little_endian.specs.Numbers.{u32_bytes, numbers_bytes, put}
use Rattle.little_endian.proofs.Puts.{put_none, number-turn}
use Rattle.little_endian.proofs.put_numbers_unchecked.Goals as goal

pub loop-u-preserved : goal.loop-u-preserved
unfolding u32_bytes
loop-u-preserved c =
    let l = c.loop-u in
    let written = rw c.to_le_bytes.ensures at c.put_bytes_unchecked.ensures in
    (omega arith, rw written (number-turn l.out c.args.numbers.now l.at l.u-index (omega arith) (omega arith) ∙ l.invariant.1))

pub returns : goal.returns
unfolding numbers_bytes
returns c = rw (drop_of_length-le c.args.numbers.now {i = c.loop-u.u-index} c.loop-u-test.false, put_none) at c.loop-u.invariant.1
