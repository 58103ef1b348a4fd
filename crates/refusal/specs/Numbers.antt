-- Document 01, 'Numbers that come back'.
use Rattle.std.specs.Prelude.{◌≡◌, List, ℕ, ℤ, pos, replicate, Result, Ok, Err}
use Rattle.refusal.specs.declared.Refusal.{Refusal}
use Rattle.refusal.specs.declared.Refusal.TheVariants.{Cut, Kind, TrailingBytes, SheetLimit, SheetConstants, IdOrder, PlaceOffSheet, PlacePosition, EndCount, NoRoom, OffSheet, OutOfRange, NothingInReach, Name, AnswerOffSheet}

-- the number of each refusal
abbrev pub number_of : Refusal → ℕ
number_of Cut = 1
number_of Kind = 2
number_of TrailingBytes = 3
number_of SheetLimit = 4
number_of SheetConstants = 5
number_of IdOrder = 6
number_of PlaceOffSheet = 7
number_of PlacePosition = 8
number_of EndCount = 9
number_of NoRoom = 10
number_of OffSheet = 11
number_of OutOfRange = 12
number_of NothingInReach = 13
number_of Name = 14
number_of AnswerOffSheet = 15

-- two refusals never share a number
abbrev pub DistinctNumbers : Type 0
DistinctNumbers = (r s : Refusal) → number_of r ≡ number_of s → r ≡ s

-- What comes back: the number of the refusal, then the values. An acceptance has no number in document 01; here it is 0.
pub record Reply : Type 0 where
  pub number : ℕ
  pub values : List ℤ

abbrev pub accepted : List ℤ → Reply
accepted vs = record { number = 0; values = vs }

-- a refusal returns its number, and zeros for the rest: here k values
abbrev pub refused : ℕ → Refusal → Reply
refused k r = record { number = number_of r; values = replicate k (pos 0) }

-- what a result stands for: the values of what was found, or the refusal, with k zeros
abbrev pub reply_by : {T : Type 0} → ℕ → (T → List ℤ) → Result T Refusal → Reply
reply_by k values (Ok found) = accepted (values found)
reply_by k values (Err r) = refused k r

-- a refusal is never taken for an acceptance: no refusal has the number 0
abbrev pub NoNumberZero : Type 0
NoNumberZero = (r : Refusal) → number_of r ≡ 0 → ⊥
