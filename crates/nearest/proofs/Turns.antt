-- What the loop over a table needs: a turn, and the end. Its invariant: the best so far with the places that are left comes to the best of all. Assumes nothing.
use mathlib.Core.Bool.{Bool, true, false, cond, ◌&&◌}
use mathlib.Core.List.{List, [], ◌∷◌}
use mathlib.Core.Path.{◌≡◌, refl, sym, ◌∙◌}
use Prim.Native.Nat.{ℕ, suc, ◌+◌, ◌≤◌, ◌<◌}
use native.Mathlib.Numerals.{add-one}
use native.Mathlib.Omega.{arith}
use lib.IntN.{ℤ}
use lib.ListN.{get_or, length, drop}
use lib.Seq.{drop-cons, drop-length}
use Rattle.std.specs.Prelude.{Option, None, Some}
use Rattle.place.specs.declared.Place.{Place}
use Rattle.nearest.specs.declared.Candidate.{Candidate}
use Rattle.nearest.specs.Taps.{candidate_at, is_within_reach, within_reach_from, is_first, is_better, better, best_of}

module _ (x y : ℤ) (squared_reach : ℕ) where
  -- the best of a place and those after it
  one_more : (b : Option Candidate) (k : ℕ) (p : Place) (ps : List Place) →
      best_of b (within_reach_from k (p ∷ ps) x y squared_reach) ≡ best_of (best_of b (within_reach_from k (p ∷ []) x y squared_reach)) (within_reach_from (suc k) ps x y squared_reach)
  unfolding best_of within_reach_from
  one_more b k p ps = by_test (candidate_at x y p k) (within_reach_from (suc k) ps x y squared_reach) (is_within_reach x y squared_reach p)
    where
      by_test : (c : Candidate) (cs : List Candidate) (t : Bool) → best_of b (cond t (c ∷ cs) cs) ≡ best_of (best_of b (cond t (c ∷ []) [])) cs
      by_test c cs true = refl
      by_test c cs false = refl

  -- the best after a place: its candidate where that is better
  by_reach : (b : Option Candidate) (c : Candidate) (t : Bool) → cond (t && is_first b c) (Some c) b ≡ best_of b (cond t (c ∷ []) [])
  unfolding best_of better
  by_reach None c true = refl
  by_reach (Some b) c true = refl
  by_reach None c false = refl
  by_reach (Some b) c false = refl

  pub best_after : (b b' : Option Candidate) (c : Candidate) (k : ℕ) (p : Place) (s : Bool) → c ≡ candidate_at x y p k → s ≡ is_better b c squared_reach → b' ≡ cond s (Some c) b →
      b' ≡ best_of b (within_reach_from k (p ∷ []) x y squared_reach)
  unfolding is_better within_reach_from
  best_after b b' c k p s e f g = g ∙ rw (f, e) (by_reach b (candidate_at x y p k) (is_within_reach x y squared_reach p))

  -- p is the place that the turn read, b' the best after it
  pub fold_more : (t : List Place) (best b b' : Option Candidate) (k : ℕ) (p d : Place) → k < length t → p ≡ get_or t k d → b' ≡ best_of b (within_reach_from k (p ∷ []) x y squared_reach) →
      best_of b (within_reach_from k (drop k t) x y squared_reach) ≡ best → best_of b' (within_reach_from (k + 1) (drop (k + 1) t) x y squared_reach) ≡ best
  fold_more t best b b' k p d h q e w = rw (add-one, e, q) (sym (one_more b k (get_or t k d) (drop (suc k) t)) ∙ rw (drop-cons t k d) at w)

  pub fold_done : (t : List Place) (best b : Option Candidate) (k : ℕ) → length t ≤ k → k ≤ length t → best_of b (within_reach_from k (drop k t) x y squared_reach) ≡ best → b ≡ best
  unfolding best_of within_reach_from
  fold_done t best b k h g w = let e : k ≡ length t = omega arith in rw (e, drop-length) at w
