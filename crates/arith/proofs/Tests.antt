-- What a test of several parts says: `facts e (search said depth 9)` takes `a ≤ b && c < d && ..` apart, and gives a pair for each `&&`. Assumes nothing.
use mathlib.Core.Path.{◌≡◌}
use mathlib.Core.Bool.{Bool, true, ◌&&◌}
use mathlib.Mathlib.Data.Bool.Basic.{and_elim_left, and_elim_right}
use lib.IntN.{ℤ}
use lib.Signed.{le_z, lt_z, ◌≤ℤ◌, ◌<ℤ◌}
use Rattle.arith.proofs.Order.{le_true, lt_true}

-- what holds where the test is true
pub record Says (test : Bool) : Type 1 where
  pub fact : Type 0
  pub by : test ≡ true → fact

abbrev pub says_le : (a b : ℤ) → Says (le_z a b)
says_le a b = record { fact = a ≤ℤ b; by = le_true }

abbrev pub says_lt : (a b : ℤ) → Says (lt_z a b)
says_lt a b = record { fact = a <ℤ b; by = lt_true }

abbrev pub says_both : {a b : Bool} → Says a → Says b → Says (a && b)
says_both {a} {b} p q = record { fact = p.fact × q.fact; by = λ e. (p.by (and_elim_left a b e), q.by (and_elim_right a b e)) }

pub ruleset said = (says_both, says_le, says_lt)

pub facts : {test : Bool} → test ≡ true → (p : Says test) → p.fact
facts e p = p.by e
