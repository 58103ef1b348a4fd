-- Two answers never share a number and a value. Assumes nothing.
use mathlib.Core.List.{[], ◌∷◌}
use Rattle.refusal.proofs.Distinct.{distinct_results}
use Rattle.trig.specs.Laws.{DistinctReplies}

pub distinct_replies : DistinctReplies
distinct_replies = distinct_results 1 (λ v. v ∷ []) (λ v w e. cc)
