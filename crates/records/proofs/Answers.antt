-- Two layouts never share a number and values. Assumes nothing.
use mathlib.Core.Bool.{cond}
use mathlib.Core.Path.{◌≡◌, refl, ap, sym, ◌∙◌}
use mathlib.Core.List.{List}
use Prim.Native.Nat.{ℕ}
use lib.Dec.{eqb}
use lib.IntN.{ℤ, pos, nat_abs}
use lib.ListN.{get_or}
use Rattle.refusal.proofs.Distinct.{distinct_results}
use Rattle.records.specs.declared.Record.{Record}
use Rattle.records.specs.declared.Record.TheVariants as records
use Rattle.records.specs.Records.{record_number}
use Rattle.records.specs.Laws.{DistinctLayoutReplies}

-- a record is found again by its number
record_of : ℕ → Record
record_of n = cond (eqb n 1) records.Sheet (cond (eqb n 2) records.Place records.End)

record_again : (w : Record) → record_of (record_number w) ≡ w
unfolding record_of
record_again records.Sheet = refl
record_again records.Place = refl
record_again records.End = refl

value : List ℤ → ℕ
value vs = nat_abs (get_or vs 0 (pos 0))

pub distinct_layout_replies : DistinctLayoutReplies
unfolding value
distinct_layout_replies = distinct_results 2 _ (λ w v e. sym (record_again w) ∙ ap record_of (ap value e) ∙ record_again v)
