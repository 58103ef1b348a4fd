-- The candidates of a table: its places within reach, each at its position. Assumes nothing.
use mathlib.Core.Bool.{Bool, true, false, cond}
use mathlib.Core.List.Memᴰ
use mathlib.Core.List.{List, [], ◌∷◌, Memᴰ}
use mathlib.Core.Logic.{⊎_elim}
use mathlib.Core.Path.{◌≡◌, refl, ap}
use Prim.Native.Nat.{ℕ, zero, suc, ◌+◌, ◌≤◌, ◌<◌}
use native.Mathlib.Omega.{arith}
use borrow.Author.Tests.{le-leb, leb-true}
use lib.IntN.{ℤ}
use lib.ListN.{get_or, length}
use Rattle.arith.proofs.Choose.{choose}
use Rattle.place.specs.declared.Place.{Place}
use Rattle.place.specs.Places.{blank_place}
use Rattle.nearest.specs.declared.Candidate.{Candidate}
use Rattle.nearest.specs.Taps.{candidate_at, is_within_reach, within_reach_from}
use Rattle.nearest.specs.Laws.{squared_distance_at}

module _ (x y : ℤ) (squared_reach : ℕ) where
  -- a place within reach is among them; i is its position where the first has the position k
  pub is_reached : (k : ℕ) (t : List Place) (j i : ℕ) → j < length t → i ≡ k + j → squared_distance_at t x y j ≤ squared_reach →
      Memᴰ (candidate_at x y (get_or t j blank_place) i) (within_reach_from k t x y squared_reach)
  unfolding within_reach_from
  is_reached k [] j i h e d = absurd (omega arith)
  is_reached k (p ∷ ps) zero i h e d = let f : i ≡ k = omega arith in rw (le-leb _ _ d) (Memᴰ.head (ap (candidate_at x y p) f))
  is_reached k (p ∷ ps) (suc j) i h e d =
      let c = candidate_at x y (get_or ps j blank_place) i in
      let rest = within_reach_from (suc k) ps x y squared_reach in
      let m = is_reached (suc k) ps j i (omega arith) (omega arith) d in
      choose (λ cs. Memᴰ c cs) (is_within_reach x y squared_reach p) (candidate_at x y p k ∷ rest) rest (λ _. Memᴰ.tail m) (λ _. m)

  -- and each of them is such a place
  pub record Reached (k : ℕ) (t : List Place) (c : Candidate) : Type 0 where
    pub at : ℕ
    pub in_table : at < length t
    pub in_reach : squared_distance_at t x y at ≤ squared_reach
    pub is : c ≡ candidate_at x y (get_or t at blank_place) (k + at)

  one_on : (k : ℕ) (p : Place) (ps : List Place) (c : Candidate) → Reached (suc k) ps c → Reached k (p ∷ ps) c
  one_on k p ps c r =
      let e : suc k + r.at ≡ k + suc r.at = omega arith in
      record { at = suc r.at; in_table = omega (arith, r.in_table); in_reach = r.in_reach; is = rw e at r.is }

  pub reached : (k : ℕ) (t : List Place) (c : Candidate) → Memᴰ c (within_reach_from k t x y squared_reach) → Reached k t c
  unfolding within_reach_from
  reached k [] c m = absurd (Memᴰ.not-nil m)
  reached k (p ∷ ps) c m = by_test (reached (suc k) ps c) (is_within_reach x y squared_reach p) refl m
    where
      by_test : (Memᴰ c (within_reach_from (suc k) ps x y squared_reach) → Reached (suc k) ps c) → (s : Bool) → is_within_reach x y squared_reach p ≡ s →
          Memᴰ c (cond s (candidate_at x y p k ∷ within_reach_from (suc k) ps x y squared_reach) (within_reach_from (suc k) ps x y squared_reach)) → Reached k (p ∷ ps) c
      by_test below true e m =
          ⊎_elim
          (λ f. let o : k ≡ k + 0 = omega arith in record { at = 0; in_table = omega arith; in_reach = leb-true _ _ e; is = rw o at f })
          (λ n. one_on k p ps c (below n))
          (Memᴰ.cases_cons m)
      by_test below false e m = one_on k p ps c (below m)
