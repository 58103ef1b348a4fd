-- The places near one of them are the others near it, and itself. Assumes nothing.
use mathlib.Core.Bool.{Bool, true, false, cond}
use mathlib.Core.List.{List, [], ◌∷◌, ◌++◌}
use mathlib.Core.Path.{◌≡◌, refl, ap, ◌∙◌}
use Prim.Native.Nat.{ℕ, suc, ◌+◌, ◌<◌}
use native.Mathlib.Omega.{arith}
use borrow.Author.Tests.{le-leb}
use lib.IntN.{ℤ, pos, ◌-ℤ◌}
use lib.ListN.{length, get_or, take, drop}
use lib.Seq.{split_at}
use Rattle.arith.proofs.Parts.{linear, sub_parts}
use Rattle.place.specs.declared.Place.{Place}
use Rattle.place.specs.Places.{blank_place}
use Rattle.nearest.specs.Taps.{squared, squared_distance, candidate_at, is_within_reach, within_reach_from, within_reach}
use Rattle.reach.specs.Lists.{position_of}
use Rattle.reach.proofs.Insertion.{length-listed}
use Rattle.crowding_report.specs.Crowding.{others_within}
use Rattle.crowding_report.specs.Laws.{OwnListLessItself}

module _ (x y : ℤ) (q : ℕ) where
  abbrev near : ℕ → List Place → ℕ
  near k t = length (within_reach_from k t x y q)

  -- the position of the first does not count
  near_from : (j k : ℕ) (t : List Place) → near j t ≡ near k t
  unfolding within_reach_from
  near_from j k [] = refl
  near_from j k (p ∷ ps) = by_test (near_from (suc j) (suc k) ps) (is_within_reach x y q p)
    where
      by_test : near (suc j) ps ≡ near (suc k) ps → (s : Bool) →
          length (cond s (candidate_at x y p j ∷ within_reach_from (suc j) ps x y q) (within_reach_from (suc j) ps x y q))
          ≡ length (cond s (candidate_at x y p k ∷ within_reach_from (suc k) ps x y q) (within_reach_from (suc k) ps x y q))
      by_test below true = ap suc below
      by_test below false = below

  pub near_append : (k : ℕ) (a b : List Place) → near k (a ++ b) ≡ near k a + near k b
  unfolding within_reach_from
  near_append k [] b = omega arith
  near_append k (p ∷ ps) b = by_test (near_append (suc k) ps b ∙ ap (λ n. near (suc k) ps + n) (near_from (suc k) k b)) (is_within_reach x y q p)
    where
      by_test : near (suc k) (ps ++ b) ≡ near (suc k) ps + near k b → (s : Bool) →
          length (cond s (candidate_at x y p k ∷ within_reach_from (suc k) (ps ++ b) x y q) (within_reach_from (suc k) (ps ++ b) x y q))
          ≡ length (cond s (candidate_at x y p k ∷ within_reach_from (suc k) ps x y q) (within_reach_from (suc k) ps x y q)) + near k b
      by_test below true = omega arith
      by_test below false = below

  pub near_one : (k : ℕ) (p : Place) (ps : List Place) → is_within_reach x y q p ≡ true → near k (p ∷ ps) ≡ suc (near k ps)
  unfolding within_reach_from
  near_one k p ps e = rw e (ap suc (near_from (suc k) k ps))

-- a place is near itself
no_way : (z : ℤ) → squared (z -ℤ z) ≡ 0
unfolding squared
no_way z = let e : z -ℤ z ≡ pos 0 = omega (linear, sub_parts z z) in rw e

near_itself : (p : Place) (q : ℕ) → is_within_reach p.«x» p.«y» q p ≡ true
unfolding squared_distance
near_itself p q = rw (no_way p.«x», no_way p.«y») (le-leb 0 q (omega arith))

module _ (ps : List Place) (k : ℕ) (reach : ℤ) (h : k < length ps) where
  abbrev p : Place
  p = get_or ps k blank_place

  pub itself_and_others : length (within_reach ps p.«x» p.«y» reach) ≡ suc (others_within ps k reach)
  unfolding within_reach others_within
  itself_and_others =
      let x = p.«x» in
      let y = p.«y» in
      let q = squared reach in
      let all = ap (near x y q 0) (split_at ps k blank_place h) ∙ near_append x y q 0 (take k ps) (p ∷ drop (suc k) ps) in
      omega (arith, all, near_one x y q 0 p (drop (suc k) ps) (near_itself p q), near_append x y q 0 (take k ps) (drop (suc k) ps))

pub own_list_less_itself : OwnListLessItself
own_list_less_itself ps k reach h = let p = get_or ps k blank_place in length-listed position_of ps p.«x» p.«y» reach ∙ itself_and_others ps k reach h
