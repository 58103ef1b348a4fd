-- Two refusals never share a number, and none has the number 0 or one above 15; so replies are told apart. Assumes nothing.
use mathlib.Core.Bool.{false}
use mathlib.Core.Path.{◌≡◌, refl, sym, ap, ◌∙◌}
use mathlib.Core.List.{List, [], ◌∷◌}
use Prim.Native.Nat.{ℕ, ◌≤◌, ◌<◌}
use native.Mathlib.Nat.{lt_of_not-le}
use native.Mathlib.Omega.{arith}
use borrow.Author.Tests.{ne_eqb}
use lib.Dec.{eqb}
use lib.IntN.{ℤ}
use lib.ListN.{get_or, get_or-eq_default}
use Rattle.std.specs.Prelude.{Result, Ok, Err}
use Rattle.refusal.specs.declared.Refusal.{Refusal}
use Rattle.refusal.specs.declared.Refusal.TheVariants.{Cut, Kind, TrailingBytes, SheetLimit, SheetConstants, IdOrder, PlaceOffSheet, PlacePosition, EndCount, NoRoom, OffSheet, OutOfRange, NothingInReach, Name, AnswerOffSheet}
use Rattle.refusal.specs.Numbers.{number_of, Reply, accepted, refused, reply_by, DistinctNumbers, NoNumberZero}

-- the refusals in the order of their numbers; the first stands at 0 too, which is no refusal's number
by_number : List Refusal
by_number =
    Cut ∷ Cut ∷ Kind ∷ TrailingBytes ∷ SheetLimit ∷ SheetConstants ∷ IdOrder ∷ PlaceOffSheet ∷ PlacePosition ∷ EndCount ∷ NoRoom ∷ OffSheet ∷ OutOfRange ∷ NothingInReach
    ∷ Name ∷ AnswerOffSheet ∷ []

-- the refusal that has a number
pub refusal_of : ℕ → Refusal
refusal_of n = get_or by_number n Cut

-- a refusal is found again by its number
pub refusal-of_number : (r : Refusal) → refusal_of (number_of r) ≡ r
unfolding by_number refusal_of
refusal-of_number Cut = refl
refusal-of_number Kind = refl
refusal-of_number TrailingBytes = refl
refusal-of_number SheetLimit = refl
refusal-of_number SheetConstants = refl
refusal-of_number IdOrder = refl
refusal-of_number PlaceOffSheet = refl
refusal-of_number PlacePosition = refl
refusal-of_number EndCount = refl
refusal-of_number NoRoom = refl
refusal-of_number OffSheet = refl
refusal-of_number OutOfRange = refl
refusal-of_number NothingInReach = refl
refusal-of_number Name = refl
refusal-of_number AnswerOffSheet = refl

pub distinct_numbers : DistinctNumbers
distinct_numbers r s e = sym (refusal-of_number r) ∙ ap refusal_of e ∙ refusal-of_number s

-- at 0 stands Cut, whose number is 1
pub no_number_zero : NoNumberZero
unfolding by_number refusal_of
no_number_zero r e = let cut : Cut ≡ r = rw e at (refusal-of_number r) in let k = ap number_of cut in omega arith

-- by the test of the definitions
pub not_zero : (r : Refusal) → eqb (number_of r) 0 ≡ false
not_zero r = ne_eqb (number_of r) 0 (no_number_zero r)

-- past the list is Cut too
pub number-most : (r : Refusal) → number_of r < 16
unfolding by_number refusal_of
number-most r =
    lt_of_not-le (λ (h : 16 ≤ number_of r).
    let cut : Cut ≡ r = rw (get_or-eq_default by_number Cut h) at (refusal-of_number r) in
    let k = ap number_of cut in
    omega arith)

-- ---- of replies

pub number-of : {p q : Reply} → p ≡ q → p.number ≡ q.number
number-of = ap (λ (x : Reply). x.number)

pub same_refusal : (j k : ℕ) (r s : Refusal) → refused j r ≡ refused k s → r ≡ s
same_refusal j k r s e = distinct_numbers r s (number-of e)

pub accepted-or_refused : (vs : List ℤ) (k : ℕ) (r : Refusal) → accepted vs ≡ refused k r → ⊥
accepted-or_refused vs k r e = no_number_zero r (sym (number-of e))

pub same_values : (us vs : List ℤ) → accepted us ≡ accepted vs → us ≡ vs
same_values us vs = ap (λ (x : Reply). x.values)

-- two results never share a reply, where no two values do
pub distinct_results : {T : Type 0} (k : ℕ) (values : T → List ℤ) → ((t u : T) → values t ≡ values u → t ≡ u) →
    (a b : Result T Refusal) → reply_by k values a ≡ reply_by k values b → a ≡ b
distinct_results k values distinct (Ok t) (Ok u) e = ap Ok (distinct t u (same_values _ _ e))
distinct_results k values distinct (Ok t) (Err r) e = absurd (accepted-or_refused _ k r e)
distinct_results k values distinct (Err r) (Ok t) e = absurd (accepted-or_refused _ k r (sym e))
distinct_results k values distinct (Err r) (Err s) e = ap Err (same_refusal k k r s e)
