-- Entries of a list that are stored one after the other. Assumes nothing.
use mathlib.Core.Path.{◌≡◌}
use mathlib.Core.List.{List, ◌++◌, append_assoc}
use Prim.Native.Nat.{ℕ, suc, ◌≤◌, ◌<◌}
use native.Mathlib.Omega.{arith}
use lib.ListN.{length, get_or, set, take, drop}
use lib.Seq.{drop-cons, take-suc, set_at, get_or_at, length-take-le, take-length}

module _ {A : Type 0} (d : A) (entries before : List A) where
  -- with the first k entries stored, one more
  pub one_more : (k : ℕ) → k < length entries → k < length before →
      set (take k entries ++ drop k before) k (get_or entries k d) ≡ take (suc k) entries ++ drop (suc k) before
  one_more k h j =
      let l : length (take k entries) ≡ k = length-take-le k entries (omega arith) in
      rw (drop-cons before k d, set_at (take k entries) (get_or before k d) (drop (suc k) before) (get_or entries k d) k l, take-suc entries k d, append_assoc)

  -- with all of them stored
  pub all_stored : (k : ℕ) → k ≡ length entries → take k entries ++ drop k before ≡ entries ++ drop (length entries) before
  all_stored k e = rw (e, take-length)

  -- the next entry is as it was
  pub next-is : (k : ℕ) → k ≤ length entries → k < length before → get_or (take k entries ++ drop k before) k d ≡ get_or before k d
  next-is k h j = rw (drop-cons before k d) (get_or_at (take k entries) _ _ d k (length-take-le k entries h))
