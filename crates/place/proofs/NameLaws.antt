-- A name by the test is 1 to 16 printable bytes, then zeros; and back. Assumes nothing.
use mathlib.Core.Path.{◌≡◌, refl, sym, ap, ◌∙◌}
use mathlib.Core.Bool.{true, ◌&&◌, or-true, false≢true}
use mathlib.Mathlib.Data.Bool.Basic.{and_elim_left, and_elim_right}
use mathlib.Core.List.{List, [], ◌∷◌, ◌++◌}
use Prim.Native.Nat.{ℕ, zero, suc, ◌+◌, ◌-◌, ◌≤◌, ◌<◌}
use native.Mathlib.Omega.{arith}
use borrow.Author.Tests.{eqb-true}
use lib.Dec.{eqb}
use lib.ListN.{get_or, length, replicate, length-append, length-replicate}
use Rattle.arith.proofs.Choose.{by_test}
use Rattle.place.specs.Names.{is_printable, are_zeros, are_printable_then_zeros, is_name}
use Rattle.place.specs.Laws.{IsName, NameHolds, HoldsName}

-- all of them printable
abbrev Printable : List ℕ → Type 0
Printable ls = (i : ℕ) → i < length ls → is_printable (get_or ls i 0) ≡ true

one_more : (l : ℕ) (ls : List ℕ) → is_printable l ≡ true → Printable ls → Printable (l ∷ ls)
one_more l ls e f zero h = e
one_more l ls e f (suc i) h = f i (omega arith)

-- ---- what the test says

record TextThenZeros (bs : List ℕ) : Type 0 where
  text : List ℕ
  printable : Printable text
  rest : ℕ
  filled : bs ≡ text ++ replicate rest 0

zeros : (bs : List ℕ) → are_zeros bs ≡ true → bs ≡ replicate (length bs) 0
zeros [] e = refl
zeros (b ∷ bs) e = λ i. eqb-true b 0 (and_elim_right (are_zeros bs) _ e) i ∷ zeros bs (and_elim_left (are_zeros bs) _ e) i

no_text : (bs : List ℕ) → are_zeros bs ≡ true → TextThenZeros bs
no_text bs e = record { text = []; printable = λ i h. absurd (omega arith); rest = length bs; filled = zeros bs e }

split : (bs : List ℕ) → are_printable_then_zeros bs ≡ true → TextThenZeros bs
split [] e = no_text [] refl
split (b ∷ bs) e =
    by_test (are_zeros (b ∷ bs)) (no_text (b ∷ bs)) (λ z.
    let both : (are_printable_then_zeros bs && is_printable b) ≡ true = rw z at e in
    let s = split bs (and_elim_left (are_printable_then_zeros bs) _ both) in
    record {
      text = b ∷ s.text;
      printable = one_more b s.text (and_elim_right (are_printable_then_zeros bs) _ both) s.printable;
      rest = s.rest;
      filled = ap (λ l. b ∷ l) s.filled;
    })

first_printable : (ls : List ℕ) (k : ℕ) → is_printable (get_or (ls ++ replicate k 0) 0 0) ≡ true → 1 ≤ length ls
first_printable [] zero e = absurd (false≢true e)
first_printable [] (suc k) e = absurd (false≢true e)
first_printable (l ∷ ls) k e = omega arith

name-from : (bs : List ℕ) → length bs ≡ 16 → is_printable (get_or bs 0 0) ≡ true → TextThenZeros bs → IsName bs
name-from bs n e s =
    let k = s.rest in
    let m : length s.text + k ≡ 16 = simp (length-append, length-replicate) at (sym (ap length s.filled) ∙ n) in
    let r : 16 - length s.text ≡ k = omega arith in
    record {
      text = s.text;
      least = first_printable s.text k (rw s.filled at e);
      most = omega arith;
      printable = s.printable;
      filled = rw r s.filled;
    }

pub name-holds : NameHolds
unfolding is_name
name-holds bs e =
    let p = and_elim_left (eqb (length bs) 16 && are_printable_then_zeros bs) (is_printable (get_or bs 0 0)) e in
    name-from bs
    (eqb-true (length bs) 16 (and_elim_left _ (are_printable_then_zeros bs) p))
    (and_elim_right (eqb (length bs) 16 && are_printable_then_zeros bs) (is_printable (get_or bs 0 0)) e)
    (split bs (and_elim_right (eqb (length bs) 16) (are_printable_then_zeros bs) p))

-- ---- and back

zeros_back : (k : ℕ) → are_zeros (replicate k 0) ≡ true
zeros_back zero = refl
zeros_back (suc k) = rw (zeros_back k)

joined_back : (ls : List ℕ) (k : ℕ) → Printable ls → are_printable_then_zeros (ls ++ replicate k 0) ≡ true
joined_back [] zero f = refl
joined_back [] (suc k) f = rw (zeros_back k)
joined_back (l ∷ ls) k f = rw (joined_back ls k (λ i h. f (suc i) (omega arith)), f 0 (omega arith)) (or-true (are_zeros (l ∷ (ls ++ replicate k 0))))

first_back : (ls : List ℕ) (k : ℕ) → Printable ls → 1 ≤ length ls → is_printable (get_or (ls ++ replicate k 0) 0 0) ≡ true
first_back [] k f h = absurd (omega arith)
first_back (l ∷ ls) k f h = f 0 h

pub holds-name : HoldsName
unfolding is_name
holds-name bs h =
    let k = 16 - length h.text in
    let n : length (h.text ++ replicate k 0) ≡ 16 = length-append h.text (replicate k 0) ∙ rw (length-replicate {A = ℕ} k 0) (omega (arith, h.most)) in
    rw (h.filled, n, joined_back h.text k h.printable) (first_back h.text k h.printable h.least)
