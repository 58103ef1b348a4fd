-- The laws of refusals in order, for a caller that has the answer of some rules and goes on with others. Each is proved in proofs/, in InOrder.
use Rattle.std.specs.Prelude.{true, ◌≡◌, List, ◌++◌, ℕ, ℤ}
use Rattle.refusal.specs.declared.Refusal.{Refusal}
use Rattle.refusal.specs.Numbers.{Reply, accepted, refused}
use Rattle.refusal.specs.Rules.{Rule, outcome, in_order, all_hold}

-- if the answer is an acceptance, all the rules hold
abbrev pub AcceptedAllHold : Type 0
AcceptedAllHold = (k : ℕ) (rules : List Rule) (us vs : List ℤ) → accepted us ≡ in_order k rules (accepted vs) → all_hold rules ≡ true

-- and so where its number is 0, whatever comes back behind the rules
abbrev pub NotRefusedAllHold : Type 0
NotRefusedAllHold = (k : ℕ) (rules : List Rule) (reply : Reply) → (in_order k rules reply).number ≡ 0 → all_hold rules ≡ true

-- where all the rules hold, the others decide
abbrev pub OthersDecide : Type 0
OthersDecide = (k : ℕ) (rules others : List Rule) (reply : Reply) → all_hold rules ≡ true → in_order k (rules ++ others) reply ≡ in_order k others reply

-- if the answer is a refusal, the rules with others after them give the same refusal
abbrev pub RefusedFirst : Type 0
RefusedFirst = (j k : ℕ) (rules others : List Rule) (vs : List ℤ) (reply : Reply) (r : Refusal) →
    refused j r ≡ in_order j rules (accepted vs) → refused k r ≡ in_order k (rules ++ others) reply

-- where rules and others all hold, the rules do, and the others do
abbrev pub BothHold : Type 0
BothHold = (rules others : List Rule) → all_hold (rules ++ others) ≡ true → (all_hold rules ≡ true) × (all_hold others ≡ true)

-- and back
abbrev pub HoldTogether : Type 0
HoldTogether = (rules others : List Rule) → all_hold rules ≡ true → all_hold others ≡ true → all_hold (rules ++ others) ≡ true

-- two answers that agree wherever the rules hold agree with the rules before them
abbrev pub AgreeBehind : Type 0
AgreeBehind = (k : ℕ) (rules first second : List Rule) (p q : Reply) → (all_hold rules ≡ true → in_order k first p ≡ in_order k second q) →
    in_order k (rules ++ first) p ≡ in_order k (rules ++ second) q

-- rules with others after them: the others stand where all the rules hold
abbrev pub InTurn : Type 1
InTurn = (A : Type 0) (rules others : List Rule) (good : A) (bad : Refusal → A) → outcome (rules ++ others) good bad ≡ outcome rules (outcome others good bad) bad

-- where all the rules hold, the outcome is `good`
abbrev pub AllHoldGood : Type 1
AllHoldGood = (A : Type 0) (rules : List Rule) (good : A) (bad : Refusal → A) → all_hold rules ≡ true → outcome rules good bad ≡ good

-- if an answer by the same rules is a refusal, the outcome is `bad` of that refusal
abbrev pub RefusedBad : Type 1
RefusedBad = (A : Type 0) (k : ℕ) (rules : List Rule) (vs : List ℤ) (good : A) (bad : Refusal → A) (r : Refusal) →
    refused k r ≡ in_order k rules (accepted vs) → outcome rules good bad ≡ bad r

-- what holds of `good`, where all the rules hold, and of `bad` of any refusal holds of the outcome; of two outcomes of the same rules too
abbrev pub ByOutcome : Type 1
ByOutcome = (A : Type 0) (P : A → Type 0) (rules : List Rule) (good : A) (bad : Refusal → A) →
    (all_hold rules ≡ true → P good) → ((r : Refusal) → P (bad r)) → P (outcome rules good bad)

abbrev pub ByOutcomes : Type 1
ByOutcomes = (A : Type 0) (P : A → A → Type 0) (rules : List Rule) (first second : A) (bad other-bad : Refusal → A) →
    (all_hold rules ≡ true → P first second) → ((r : Refusal) → P (bad r) (other-bad r)) → P (outcome rules first bad) (outcome rules second other-bad)
