-- Each turn puts a number before those still to be put.
use Rattle.std.proofs.Common.{drop, ◌≡◌, ◌+◌, ◌*◌}
use Rattle.little_endian.specs.Numbers.{numbers_bytes, put}
use Rattle.little_endian.proofs.put_numbers_unchecked.Given as goal

abbrev pub invariant-loop-u : goal.invariant-loop-u
invariant-loop-u l = (l.at ≡ 1 + 4 * l.u-index) × (put l.out l.at (numbers_bytes (drop l.u-index l.numbers)) ≡ put l.initial.out 1 (numbers_bytes l.numbers))
