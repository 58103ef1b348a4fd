-- What an answer by rules in order tells. Assumes nothing.
use mathlib.Core.Bool.{Bool, true, false, cond}
use mathlib.Core.Path.{◌≡◌, refl, ap, sym, ◌∙◌}
use mathlib.Core.List.{List, [], ◌∷◌, ◌++◌}
use mathlib.Mathlib.Data.Bool.Basic.{and_elim_left, and_elim_right}
use Prim.Native.Nat.{ℕ}
use Rattle.refusal.specs.declared.Refusal.{Refusal}
use Rattle.refusal.specs.Numbers.{Reply, accepted, refused}
use Rattle.refusal.specs.Rules.{Rule, all_hold}
use Rattle.refusal.specs.Laws.{AcceptedAllHold, NotRefusedAllHold, OthersDecide, RefusedFirst, BothHold, HoldTogether, AgreeBehind, InTurn, AllHoldGood, RefusedBad, ByOutcome, ByOutcomes}
use Rattle.refusal.proofs.Distinct.{no_number_zero, number-of, same_refusal, accepted-or_refused}

-- one rule: the number 0 goes past it
zero_past : (holds : Bool) (k : ℕ) (q : Refusal) (reply : Reply) → (cond holds reply (refused k q)).number ≡ 0 → (holds ≡ true) × (reply.number ≡ 0)
zero_past true k q reply e = (refl, e)
zero_past false k q reply e = absurd (no_number_zero q e)

pub not_refused_all_hold : NotRefusedAllHold
not_refused_all_hold k [] reply e = refl
not_refused_all_hold k (rule ∷ rules) reply e = let p = zero_past rule.holds k rule.refusal _ e in rw p.0 (not_refused_all_hold k rules reply p.1)

pub accepted-all_hold : AcceptedAllHold
accepted-all_hold k rules us vs e = not_refused_all_hold k rules (accepted vs) (sym (number-of e))

-- where all the rules hold, each of them does
abbrev pub EachHolds : List Rule → Type 0
EachHolds [] = Unit {0}
EachHolds (rule ∷ rules) = (rule.holds ≡ true) × EachHolds rules

pub each_holds : (rules : List Rule) → all_hold rules ≡ true → EachHolds rules
each_holds [] e = tt
each_holds (rule ∷ rules) e = (and_elim_left rule.holds (all_hold rules) e, each_holds rules (and_elim_right rule.holds (all_hold rules) e))

pub both_hold : BothHold
both_hold [] others e = (refl, e)
both_hold (rule ∷ rules) others e =
    let h = both_hold rules others (and_elim_right rule.holds (all_hold (rules ++ others)) e) in
    (rw (and_elim_left rule.holds (all_hold (rules ++ others)) e) h.0, h.1)

pub hold_together : HoldTogether
hold_together [] others e f = f
hold_together (rule ∷ rules) others e f =
    rw (and_elim_left rule.holds (all_hold rules) e) (hold_together rules others (and_elim_right rule.holds (all_hold rules) e) f)

-- ---- of outcomes

by_rule : {A : Type 0} (P : A → A → Type 0) (holds : Bool) (x y u v : A) → (holds ≡ true → P x u) → P y v → P (cond holds x y) (cond holds u v)
by_rule P true x y u v f g = f refl
by_rule P false x y u v f g = g

bad_past : {A : Type 0} (holds : Bool) (k : ℕ) (r q : Refusal) (p : Reply) (x : A) (bad : Refusal → A) → (refused k r ≡ p → x ≡ bad r) →
    refused k r ≡ cond holds p (refused k q) → cond holds x (bad q) ≡ bad r
bad_past true k r q p x bad f e = f e
bad_past false k r q p x bad f e = ap bad (sym (same_refusal k k r q e))

pub in_turn_lem : InTurn
in_turn_lem A [] others good bad = refl
in_turn_lem A (rule ∷ rules) others good bad = ap (λ x. cond rule.holds x (bad rule.refusal)) (in_turn_lem A rules others good bad)

pub all_hold-good : AllHoldGood
all_hold-good A [] good bad e = refl
all_hold-good A (rule ∷ rules) good bad e =
    rw (and_elim_left rule.holds (all_hold rules) e) (all_hold-good A rules good bad (and_elim_right rule.holds (all_hold rules) e))

pub refused-bad : RefusedBad
refused-bad A k [] vs good bad r e = absurd (accepted-or_refused vs k r (sym e))
refused-bad A k (rule ∷ rules) vs good bad r e = bad_past rule.holds k r rule.refusal _ _ bad (refused-bad A k rules vs good bad r) e

pub by_outcomes : ByOutcomes
by_outcomes A P [] first second bad other-bad f g = f refl
by_outcomes A P (rule ∷ rules) first second bad other-bad f g =
    by_rule P rule.holds _ _ _ _ (λ h. by_outcomes A P rules first second bad other-bad (λ hs. f (rw h hs)) g) (g rule.refusal)

pub by_outcome : ByOutcome
by_outcome A P rules good bad = by_outcomes A (λ a _. P a) rules good good bad bad

-- ---- an answer in order is an outcome

pub others_decide : OthersDecide
others_decide k rules others reply e = in_turn_lem Reply rules others reply (refused k) ∙ all_hold-good Reply rules _ (refused k) e

pub refused-first : RefusedFirst
refused-first j k rules others vs reply r e = sym (in_turn_lem Reply rules others reply (refused k) ∙ refused-bad Reply j rules vs _ (refused k) r e)

pub agree_behind : AgreeBehind
agree_behind k rules first second p q f =
    in_turn_lem Reply rules first p (refused k)
    ∙ by_outcomes Reply (λ a b. a ≡ b) rules _ _ (refused k) (refused k) f (λ r. refl)
    ∙ sym (in_turn_lem Reply rules second q (refused k))
