-- The order of candidates is strict, and of two that are not the same one is before the other. Assumes nothing.
use mathlib.Core.Bool.{Bool, true, false, true≢false}
use mathlib.Core.Logic.{◌⊎◌, inl, inr, ⊎_elim}
use mathlib.Core.Path.{◌≡◌, refl, sym, ◌∙◌}
use Prim.Native.Nat.{ℕ, ◌<◌}
use native.Mathlib.Omega.{arith}
use borrow.Author.Tests.{ltb-true, ltb-false, lt-ltb, le-ltb, eqb-true, eqb-false, eq-eqb, ne_eqb}
use lib.Dec.{ltb, eqb}
use Rattle.nearest.specs.declared.Candidate.{Candidate}
use Rattle.nearest.specs.Taps.{less_or, is_before}
use Rattle.nearest.specs.Laws.{NotBothBefore, BeforeTransitive, OneIsBefore}

-- ---- one number before another, then the rest

data Compared (m n : ℕ) : Type 0 where
  less : m < n → Compared m n
  same : m ≡ n → Compared m n
  more : n < m → Compared m n

compared : (m n : ℕ) → Compared m n
compared m n = by_less (ltb m n) refl
  where
    by_equal : (t : Bool) → ltb m n ≡ false → eqb m n ≡ t → Compared m n
    by_equal true l e = same (eqb-true m n e)
    by_equal false l e = let ne = eqb-false m n e in let le = ltb-false m n l in more (omega arith)

    by_less : (t : Bool) → ltb m n ≡ t → Compared m n
    by_less true e = less (ltb-true m n e)
    by_less false e = by_equal (eqb m n) e refl

module _ (m n : ℕ) (rest : Bool) where
  when_less : m < n → less_or m n rest ≡ true
  when_less h = rw (lt-ltb m n h)

  when_same : m ≡ n → less_or m n rest ≡ rest
  when_same h = rw (le-ltb m n (omega arith), eq-eqb m n h)

  when_more : n < m → less_or m n rest ≡ false
  when_more h = rw (le-ltb m n (omega arith), ne_eqb m n (λ (e : m ≡ n). omega arith))

  -- what the test says, where it holds and where it does not
  says : less_or m n rest ≡ true → (m < n) ⊎ ((m ≡ n) × (rest ≡ true))
  says e = elim (compared m n) [
    | less h ↦ inl h
    | same h ↦ inr (h, sym (when_same h) ∙ e)
    | more h ↦ absurd (true≢false (sym e ∙ when_more h))
  ]

  denies : less_or m n rest ≡ false → (n < m) ⊎ ((m ≡ n) × (rest ≡ false))
  denies e = elim (compared m n) [
    | less h ↦ absurd (true≢false (sym (when_less h) ∙ e))
    | same h ↦ inr (h, sym (when_same h) ∙ e)
    | more h ↦ inl h
  ]

not_both : (m n : ℕ) (s t : Bool) → (s ≡ true → t ≡ false) → less_or m n s ≡ true → less_or n m t ≡ false
not_both m n s t f e = ⊎_elim (λ h. when_more n m t h) (λ h. when_same n m t (sym h.0) ∙ f h.1) (says m n s e)

transitive : (l m n : ℕ) (s t u : Bool) → (s ≡ true → t ≡ true → u ≡ true) → less_or l m s ≡ true → less_or m n t ≡ true → less_or l n u ≡ true
transitive l m n s t u f e g =
    ⊎_elim
    (λ h. ⊎_elim (λ k. when_less l n u (omega arith)) (λ k. when_less l n u (omega arith)) (says m n t g))
    (λ h. ⊎_elim (λ k. when_less l n u (omega arith)) (λ k. when_same l n u (omega arith) ∙ f h.1 k.1) (says m n t g))
    (says l m s e)

neither : (m n : ℕ) (s t : Bool) → less_or m n s ≡ false → less_or n m t ≡ false → (m ≡ n) × ((s ≡ false) × (t ≡ false))
neither m n s t e g =
    ⊎_elim
    (λ h. ⊎_elim (λ k. absurd (omega arith)) (λ k. absurd (omega arith)) (denies n m t g))
    (λ h. ⊎_elim (λ k. absurd (omega arith)) (λ k. (h.0, (h.1, k.1))) (denies n m t g))
    (denies m n s e)

-- ---- the order

-- the order where squared distance and id are equal, and where the squared distance is
abbrev by_position : Candidate → Candidate → Bool
by_position a b = ltb a.«position» b.«position»

abbrev by_id : Candidate → Candidate → Bool
by_id a b = less_or a.«id» b.«id» (by_position a b)

pub nearer_before : (a b : Candidate) → a.squared_distance < b.squared_distance → is_before a b ≡ true
unfolding is_before
nearer_before a b h = when_less a.squared_distance b.squared_distance (by_id a b) h

pub not_both_before : NotBothBefore
unfolding is_before
not_both_before a b =
    not_both a.squared_distance b.squared_distance (by_id a b) (by_id b a)
    (not_both a.«id» b.«id» (by_position a b) (by_position b a)
    (λ e. le-ltb b.«position» a.«position» (omega (arith, ltb-true a.«position» b.«position» e))))

pub before_transitive : BeforeTransitive
unfolding is_before
before_transitive a b c =
    transitive a.squared_distance b.squared_distance c.squared_distance (by_id a b) (by_id b c) (by_id a c)
    (transitive a.«id» b.«id» c.«id» (by_position a b) (by_position b c) (by_position a c)
    (λ e f. lt-ltb a.«position» c.«position» (omega (arith, ltb-true a.«position» b.«position» e, ltb-true b.«position» c.«position» f))))

-- two candidates, neither of which is before the other, are the same
pub neither_before : (a b : Candidate) → is_before a b ≡ false → is_before b a ≡ false → a ≡ b
unfolding is_before
neither_before a b e f =
    let squares = neither a.squared_distance b.squared_distance (by_id a b) (by_id b a) e f in
    let ids = neither a.«id» b.«id» (by_position a b) (by_position b a) squares.1.0 squares.1.1 in
    let le = ltb-false a.«position» b.«position» ids.1.0 in
    let ge = ltb-false b.«position» a.«position» ids.1.1 in
    let positions : a.«position» ≡ b.«position» = omega (arith, le, ge) in
    λ i. record { squared_distance = squares.0 i; «id» = ids.0 i; «position» = positions i }

-- where b is not before a, they are the same or a is before b
pub not_after : (a b : Candidate) → is_before b a ≡ false → (a ≡ b) ⊎ (is_before a b ≡ true)
not_after a b e = by_test (is_before a b) refl
  where
    by_test : (t : Bool) → is_before a b ≡ t → (a ≡ b) ⊎ (is_before a b ≡ true)
    by_test true f = inr f
    by_test false f = inl (neither_before a b f e)

pub one_is_before : OneIsBefore
one_is_before a b apart = by_test (is_before b a) refl
  where
    by_test : (t : Bool) → is_before b a ≡ t → (is_before a b ≡ true) ⊎ (is_before b a ≡ true)
    by_test true e = inr e
    by_test false e = ⊎_elim (λ f. absurd (apart (λ i. (f i).«position»))) (λ f. inl f) (not_after a b e)
