-- Bounds of a whole number, as contracts and statements cite them.
use Rattle.std.specs.Prelude.{Bool, ◌&&◌, ℕ, ℤ, pos, neg_ℤ, ◌≤ℤ◌}
use Rattle.std.specs.Int.Signed.{le_z}

-- z lies from lo to hi
pub record Within (lo hi z : ℤ) : Type 0 where
  pub low : lo ≤ℤ z
  pub high : z ≤ℤ hi

-- the test of that
abbrev pub is_within : ℤ → ℤ → ℤ → Bool
is_within lo hi z = le_z lo z && le_z z hi

-- z is of size up to m: |z| ≤ m
abbrev pub Size : ℤ → ℤ → Type 0
Size m z = Within (neg_ℤ m) m z

-- the test of that
abbrev pub size_up_to : ℕ → ℤ → Bool
size_up_to m z = is_within (neg_ℤ (pos m)) (pos m) z
