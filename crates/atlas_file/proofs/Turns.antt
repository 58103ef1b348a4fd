-- Reading on by one step as a function of the step's answer, and a record's step rule by rule. Assumes nothing.
use mathlib.Core.Path.{◌≡◌, refl}
use mathlib.Core.Bool.{cond}
use mathlib.Core.List.{List, [], ◌∷◌, ◌++◌}
use Prim.Native.Nat.{ℕ, suc}
use lib.ListN.{length, take}
use lib.Dec.{ltb}
use Rattle.refusal.specs.declared.Refusal.TheVariants.{Cut}
use Rattle.refusal.specs.Rules.{outcome}
use Rattle.refusal.proofs.InOrder.{in_turn_lem}
use Rattle.records.specs.declared.Record.{Record}
use Rattle.records.specs.Records.{body_of}
use Rattle.place.specs.declared.Place.{Place}
use Rattle.atlas_file.specs.declared.State.{State}
use Rattle.atlas_file.specs.declared.Found.TheVariants as found
use Rattle.std.specs.Prelude.{Ok, Err}
use Rattle.atlas_file.specs.Steps.{StepAnswer, refused_here, due_rules, content_step, record_step, step_of}
use Rattle.atlas_file.specs.Reading.{Reading, accepted_reading, refused_reading, read_from}

abbrev pub after_step : ℕ → List ℕ → State → List Place → StepAnswer → Reading
after_step n b s places (Ok advance) =
    elim advance.«found» [
      | found.Sheet h ↦ read_from n b advance.«next» places
      | found.Place p ↦ read_from n b advance.«next» (places ++ (p ∷ []))
      | found.End count ↦ accepted_reading count s.«sheet» places
    ]
after_step n b s places (Err why) = refused_reading why.«refusal» why.«offset»

pub read_turn : (n : ℕ) (b : List ℕ) (s : State) (places : List Place) → read_from (suc n) b s places ≡ after_step n b s places (step_of b s)
unfolding read_from
read_turn n b s places = refl

-- a record is due, then whole, then what it holds decides
pub record_turn : (which : Record) (left : List ℕ) (s : State) →
    record_step which left s ≡ outcome (due_rules which s) (cond (ltb (body_of which) (length left)) (content_step which (take (suc (body_of which)) left) (ltb (suc (body_of which)) (length left)) s) (refused_here s Cut)) (refused_here s)
unfolding record_step
record_turn which left s = in_turn_lem StepAnswer (due_rules which s) (_ ∷ []) _ _
