-- The answers to many pairs, set one behind the other. Assumes nothing.
use Prim.Native.Nat.{ℕ, ◌+◌, ◌-◌, ◌*◌, ◌≤◌}
use native.Mathlib.Numerals.{add-one}
use native.Mathlib.Omega.{arith}
use mathlib.Core.Path.{◌≡◌, refl, sym, ap, ◌∙◌}
use mathlib.Core.List.{List, [], ◌∷◌, ◌++◌}
use borrow.Rule.Slice.PartMut.{put_mid, same_len_mid}
use lib.IntN.{ℤ, pos}
use lib.ListN.{length, get_or, set, take, drop, length-append, length-take, length-drop}
use Rattle.refusal.specs.Numbers.{Reply}
use Rattle.atlas.proofs.BufferParts.{one_part}
use Rattle.atlas_c.specs.Given.{each_answer_of, each_answers}

-- three entries of a list of three
pub three_set : {A : Type 0} (l : List A) (a b c : A) → length l ≡ 3 → set (set (set l 0 a) 1 b) 2 c ≡ a ∷ b ∷ c ∷ []
three_set [] a b c e = absurd (omega (arith, e))
three_set (x ∷ []) a b c e = absurd (omega (arith, e))
three_set (x ∷ y ∷ []) a b c e = absurd (omega (arith, e))
three_set (x ∷ y ∷ z ∷ []) a b c e = refl
three_set (x ∷ y ∷ z ∷ u ∷ l) a b c e = absurd (omega (arith, e))

-- a slice of answers, which held `before`: those to the first k pairs are set, and the rest is as it was
pub record Filled (answer : ℤ → ℤ → Reply) (ps before : List ℤ) (k : ℕ) (after : List ℤ) : Type 0 where
  pub long : length (each_answers answer ps k) ≡ 3 * k
  pub same_length : length after ≡ length before
  pub is : after ≡ each_answers answer ps k ++ drop (3 * k) before

-- the answers to one pair more
each_more : (answer : ℤ → ℤ → Reply) (ps : List ℤ) (k : ℕ) → each_answers answer ps (k + 1) ≡ each_answers answer ps k ++ each_answer_of (answer (get_or ps (2 * k) (pos 0)) (get_or ps (2 * k + 1) (pos 0)))
unfolding each_answers
each_more answer ps k = rw add-one refl

module _ {answer : ℤ → ℤ → Reply} {ps before : List ℤ} where
  pub none_filled : Filled answer ps before 0 before
  unfolding each_answers
  none_filled = record { long = refl; same_length = refl; is = refl }

  -- the answer q to the pair a, b, set as the numbers r into its own part of the slice
  pub one_filled : {k : ℕ} {l r : List ℤ} {q : Reply} {a b : ℤ} → Filled answer ps before k l → 3 * (k + 1) ≤ length before →
      length r ≡ length (take (3 * k + 3 - 3 * k) (drop (3 * k) l)) → r ≡ each_answer_of q → q ≡ answer a b →
      a ≡ get_or ps (2 * k) (pos 0) → b ≡ get_or ps (2 * k + 1) (pos 0) → Filled answer ps before (k + 1) (put_mid (3 * k) (3 * k + 3 - 3 * k) l r)
  one_filled {k} {l} {r} f room as_lent set answered first second =
      let three : length r ≡ 3 = as_lent ∙ simp (length-take, length-drop) (omega arith) in
      let more : each_answers answer ps (k + 1) ≡ each_answers answer ps k ++ r =
      each_more answer ps k ∙ ap (λ (x : List ℤ). each_answers answer ps k ++ x) (sym (set ∙ ap each_answer_of (answered ∙ (λ i. answer (first i) (second i))))) in
      let next : 3 * k + 3 ≡ 3 * (k + 1) = omega arith in
      record {
        long = rw more (simp length-append (omega arith));
        same_length = same_len_mid (3 * k) (3 * k + 3 - 3 * k) l r as_lent ∙ f.same_length;
        is = rw (f.is, more, ← next) (one_part (each_answers answer ps k) before r (3 * k) (3 * k + 3) f.long (omega arith));
      }
