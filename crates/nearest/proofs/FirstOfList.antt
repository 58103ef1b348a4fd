-- The best of a list is one of its candidates, and no other is before it. Assumes nothing.
use mathlib.Core.Bool.{Bool, true, false, cond}
use mathlib.Core.List.Memᴰ
use mathlib.Core.List.{List, [], ◌∷◌, Memᴰ}
use mathlib.Core.Logic.{◌⊎◌, inl, inr, ⊎_elim}
use mathlib.Core.Path.{◌≡◌, refl, sym}
use Rattle.std.specs.Prelude.{Option, Some}
use Rattle.nearest.specs.declared.Candidate.{Candidate}
use Rattle.nearest.specs.Taps.{is_before, better, best_of}
use Rattle.nearest.proofs.Order.{before_transitive, not_after}

-- the same candidate, or one that is before the other
abbrev pub NotAfter : Candidate → Candidate → Type 0
NotAfter a b = (a ≡ b) ⊎ (is_before a b ≡ true)

not_after_trans : (a b c : Candidate) → NotAfter a b → NotAfter b c → NotAfter a c
not_after_trans a b c (inl e) h = rw e h
not_after_trans a b c (inr e) (inl f) = inr (rw f at e)
not_after_trans a b c (inr e) (inr f) = inr (before_transitive a b c e f)

pub record FirstOf (best : Option Candidate) (cs : List Candidate) : Type 0 where
  pub found : Candidate
  pub is : best ≡ Some found
  pub member : Memᴰ found cs
  pub first : (c : Candidate) → Memᴰ c cs → NotAfter found c

pub first_of : (b : Candidate) (cs : List Candidate) → FirstOf (best_of (Some b) cs) (b ∷ cs)
unfolding best_of better
first_of b [] = record { found = b; is = refl; member = Memᴰ.head refl; first = λ c m. inl (sym (Memᴰ.eq_of_singleton m)) }
first_of b (c ∷ cs) = by_test (first_of c cs) (first_of b cs) (is_before c b) refl
  where
    by_test : FirstOf (best_of (Some c) cs) (c ∷ cs) → FirstOf (best_of (Some b) cs) (b ∷ cs) → (t : Bool) → is_before c b ≡ t →
        FirstOf (best_of (cond t (Some c) (Some b)) cs) (b ∷ c ∷ cs)
    by_test f _ true e = record {
      found = f.found;
      is = f.is;
      member = Memᴰ.tail f.member;
      first = λ d m. ⊎_elim (λ p. rw p (not_after_trans _ c b (f.first c (Memᴰ.head refl)) (inr e))) (f.first d) (Memᴰ.cases_cons m);
    }
    by_test _ f false e = record {
      found = f.found;
      is = f.is;
      member = ⊎_elim (λ p. Memᴰ.head p) (λ m. Memᴰ.tail (Memᴰ.tail m)) (Memᴰ.cases_cons f.member);
      first = λ d m. ⊎_elim (λ p. f.first d (Memᴰ.head p)) (λ n. by_tail d (Memᴰ.cases_cons n)) (Memᴰ.cases_cons m);
    }
      where
        by_tail : (d : Candidate) → (d ≡ c) ⊎ Memᴰ d cs → NotAfter f.found d
        by_tail d (inl p) = rw p (not_after_trans _ b c (f.first b (Memᴰ.head refl)) (not_after b c e))
        by_tail d (inr m) = f.first d (Memᴰ.tail m)
