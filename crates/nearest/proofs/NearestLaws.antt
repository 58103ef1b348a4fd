-- A tap's answer is the nearest place, and 13 where no place is within reach. Assumes nothing.
use mathlib.Core.Bool.{Bool, true, false, true≢false}
use mathlib.Core.List.Memᴰ
use mathlib.Core.List.{List, [], ◌∷◌, Memᴰ}
use mathlib.Core.Logic.{◌⊎◌, inl, inr, ⊎_elim}
use mathlib.Core.Path.{◌≡◌, refl, ap, sym, ◌∙◌}
use Prim.Native.Nat.{ℕ, ◌≤◌, ◌<◌}
use native.Mathlib.Nat.{zero-add}
use native.Mathlib.Omega.{arith}
use borrow.Author.Tests.{leb-true, leb-false, eqb-true, eqb-false}
use lib.Dec.{leb, eqb}
use lib.IntN.{ℤ, pos}
use lib.ListN.{length}
use Rattle.arith.proofs.Choose.{choose}
use Rattle.refusal.specs.declared.Refusal.TheVariants.{OutOfRange, NothingInReach}
use Rattle.refusal.specs.Numbers.{Reply, accepted, refused}
use Rattle.refusal.proofs.Distinct.{number-of, same_values, accepted-or_refused}
use Rattle.std.specs.Prelude.{None, Some}
use Rattle.place.specs.declared.Place.{Place}
use Rattle.nearest.specs.declared.Candidate.{Candidate}
use Rattle.nearest.specs.Taps.{tap_in_range, squared, within_reach, better, best_of, best_reply, nearest_reply}
use Rattle.nearest.specs.Laws.{squared_distance_at, candidate_of, IsNearest, NearestIsLeast, LeastIsNearest, NoneInReach, RefusedNoneInReach, NoneInReachRefused}
use Rattle.nearest.proofs.Order.{nearer_before, not_both_before}
use Rattle.nearest.proofs.FirstOfList.{NotAfter, FirstOf, first_of}
use Rattle.nearest.proofs.WithinReach.{is_reached, reached}

module _ (t : List Place) (x y reach : ℤ) where
  -- a place within reach is among the candidates
  pub candidate : (k : ℕ) → k < length t → squared_distance_at t x y k ≤ squared reach → Memᴰ (candidate_of t x y k) (within_reach t x y reach)
  unfolding within_reach
  candidate k h d = is_reached x y (squared reach) 0 t k k h (omega arith) d

  -- a place is within reach or beyond it
  near_or_far : (k : ℕ) → (squared_distance_at t x y k ≤ squared reach) ⊎ (squared reach < squared_distance_at t x y k)
  near_or_far k = by_test (leb (squared_distance_at t x y k) (squared reach)) refl
    where
      by_test : (s : Bool) → leb (squared_distance_at t x y k) (squared reach) ≡ s → (squared_distance_at t x y k ≤ squared reach) ⊎ (squared reach < squared_distance_at t x y k)
      by_test true e = inl (leb-true _ _ e)
      by_test false e = inr (leb-false _ _ e)

  pub none_in_reach : within_reach t x y reach ≡ [] → NoneInReach t x y reach
  none_in_reach e k h = ⊎_elim (λ d. absurd (Memᴰ.not-nil (rw e at (candidate k h d)))) (λ d. d) (near_or_far k)

  -- the first of the candidates is the nearest place
  pub first_candidate : (k : ℕ) → k < length t → squared_distance_at t x y k ≤ squared reach →
      ((c : Candidate) → Memᴰ c (within_reach t x y reach) → NotAfter (candidate_of t x y k) c) → IsNearest t x y reach k
  first_candidate k h d first = record {
    in_table = h;
    in_reach = d;
    least = λ j g apart. ⊎_elim
        (λ e. ⊎_elim (λ p. absurd (apart (sym (ap (λ (c : Candidate). c.«position») p)))) (λ b. b) (first (candidate_of t x y j) (candidate j g e)))
        (λ e. nearer_before (candidate_of t x y k) (candidate_of t x y j) (omega arith))
        (near_or_far j);
  }

  is_nearest : (c : Candidate) (cs : List Candidate) → within_reach t x y reach ≡ c ∷ cs → (o : FirstOf (best_of (Some c) cs) (c ∷ cs)) → IsNearest t x y reach o.found.«position»
  unfolding within_reach
  is_nearest c cs e o =
      let r = reached x y (squared reach) 0 t o.found (rw e o.member) in
      let is : o.found ≡ candidate_of t x y r.at = rw zero-add at r.is in
      rw is (first_candidate r.at r.in_table r.in_reach (λ d m. rw is at (o.first d (rw e at m))))

  -- what holds of the reply: by whether the tap is in range, and a place within reach
  by_reply : (P : Reply → Type 0) → (tap_in_range x y reach ≡ false → P (refused 1 OutOfRange)) → (NoneInReach t x y reach → P (refused 1 NothingInReach)) →
      ((k : ℕ) → IsNearest t x y reach k → P (accepted (pos k ∷ []))) → P (nearest_reply t x y reach)
  unfolding nearest_reply best_of better
  by_reply P out none found = choose P (tap_in_range x y reach) _ _ (λ _. by_candidates (within_reach t x y reach) refl) out
    where
      by_candidates : (cs : List Candidate) → within_reach t x y reach ≡ cs → P (best_reply (best_of None cs))
      by_candidates [] e = none (none_in_reach e)
      by_candidates (c ∷ cs) e = let o = first_of c cs in rw o.is (found _ (is_nearest c cs e o))

pub nearest_is_least : NearestIsLeast
nearest_is_least t x y reach k =
    by_reply t x y reach (λ r. r ≡ accepted (pos k ∷ []) → IsNearest t x y reach k)
    (λ _ e. absurd (accepted-or_refused _ 1 OutOfRange (sym e)))
    (λ _ e. absurd (accepted-or_refused _ 1 NothingInReach (sym e)))
    (λ j n e. let v = same_values _ _ e in let same : j ≡ k = cc in rw same at n)

pub least-is_nearest : LeastIsNearest
least-is_nearest t x y reach k e n =
    by_reply t x y reach (λ r. r ≡ accepted (pos k ∷ []))
    (λ out. absurd (true≢false (sym e ∙ out)))
    (λ none. absurd (omega (arith, none k n.in_table, n.in_reach)))
    (λ j m. ap (λ i. accepted (pos i ∷ [])) (by_test j m (eqb j k) refl))
  where
    by_test : (j : ℕ) → IsNearest t x y reach j → (s : Bool) → eqb j k ≡ s → j ≡ k
    by_test j m true f = eqb-true j k f
    by_test j m false f =
        let apart = eqb-false j k f in
        absurd (true≢false (sym (m.least k n.in_table (λ p. apart (sym p))) ∙ not_both_before _ _ (n.least j m.in_table apart)))

pub refused-none_in_reach : RefusedNoneInReach
refused-none_in_reach t x y reach =
    by_reply t x y reach (λ r. r ≡ refused 1 NothingInReach → NoneInReach t x y reach)
    (λ _ e. let k = number-of e in absurd (omega arith))
    (λ none _. none)
    (λ k _ e. absurd (accepted-or_refused _ 1 NothingInReach e))

pub none_in_reach_refused : NoneInReachRefused
none_in_reach_refused t x y reach e none =
    by_reply t x y reach (λ r. r ≡ refused 1 NothingInReach)
    (λ out. absurd (true≢false (sym e ∙ out)))
    (λ _. refl)
    (λ k n. absurd (omega (arith, none k n.in_table, n.in_reach)))
