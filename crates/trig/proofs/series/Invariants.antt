-- p is the value over the factors that are done, the last of the row.
use Rattle.std.proofs.Common.{◌≡◌, ℕ, ℤ, List, ◌++◌}
use Rattle.std.specs.Iterator.Adapters.{rev_source}
use Rattle.std.specs.Slice.Iter.{iter_rest}
use Rattle.trig.specs.Trig.{series_of}
use Rattle.trig.proofs.series.Given as goal

pub record ValueSoFar (row left : List ℕ) (z p : ℤ) : Type 0 where
  pub done : List ℕ
  pub row-is : row ≡ left ++ done
  pub value : p ≡ series_of done z

abbrev pub invariant-loop-factor : goal.invariant-loop-factor
invariant-loop-factor l = ValueSoFar l.fn.row (iter_rest (rev_source l.factor-iterator)) l.z l.p
