-- Refusals in order. Document 01 lists them so: "Refused in this order: sheet limits 4, constants 5, ..".
use Rattle.std.specs.Prelude.{Bool, true, cond, ◌&&◌, List, [], ◌∷◌, ℕ}
use Rattle.refusal.specs.declared.Refusal.{Refusal}
use Rattle.refusal.specs.Numbers.{Reply, refused}

-- a rule: a condition, and the refusal that is given where it does not hold
pub record Rule : Type 0 where
  pub holds : Bool
  pub refusal : Refusal

infix 20 ◌else-refuse◌
abbrev pub ◌else-refuse◌ : Bool → Refusal → Rule
condition else-refuse r = record { holds = condition; refusal = r }

-- the first rule that does not hold decides: `bad` of its refusal; where all hold, `good`
abbrev pub outcome : {A : Type 0} → List Rule → (good : A) → (bad : Refusal → A) → A
outcome [] good bad = good
outcome (rule ∷ rules) good bad = cond rule.holds (outcome rules good bad) (bad rule.refusal)

-- the first rule that does not hold refuses, with k zeros; where all hold, the reply comes back
abbrev pub in_order : ℕ → List Rule → Reply → Reply
in_order k rules reply = outcome rules reply (refused k)

-- whether all the rules hold
abbrev pub all_hold : List Rule → Bool
all_hold [] = true
all_hold (rule ∷ rules) = rule.holds && all_hold rules
