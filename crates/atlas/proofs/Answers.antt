-- Two answers of the writer never share a reply. Assumes nothing.
use mathlib.Core.List.{[], ◌∷◌}
use lib.IntN.{pos}
use Rattle.refusal.proofs.Distinct.{distinct_results}
use Rattle.atlas.specs.Laws.{DistinctWriteReplies}

pub distinct_write_replies : DistinctWriteReplies
distinct_write_replies = distinct_results 1 (λ length. pos length ∷ []) (λ m n e. cc)
