-- lo and hi enclose what document 01's halving finds.
use Rattle.std.proofs.Common.{◌≡◌, ℕ, ℤ, pos, ◌≤ℤ◌, ◌-ℤ◌}
use Rattle.std.specs.Prelude.{nat_abs}
use Rattle.arith.specs.Bounds.{Size}
use Rattle.cone.specs.Cone.{last_lo, offset_at}
use Rattle.cone.proofs.Cone.halve.Given as goal

-- what is left of the halving between lo and hi
pub record Between (n w : ℕ) (x v lo hi : ℤ) : Type 0 where
  pub lo_size : Size (pos 60000000) lo
  pub hi_size : Size (pos 60000000) hi
  pub order : lo ≤ℤ hi
  pub same : last_lo (pos n) x v lo hi ≡ offset_at (pos n) x v (pos w)

abbrev pub invariant-loop-hi : goal.invariant-loop-hi
invariant-loop-hi l = Between l.self.constant l.self.half_width l.point.x l.point.v l.lo l.hi

abbrev pub decreases-loop-hi : goal.decreases-loop-hi
decreases-loop-hi l = nat_abs (l.hi -ℤ l.lo)
