-- Two answers to a tap never share a reply. Assumes nothing.
use Rattle.refusal.proofs.Distinct.{distinct_results}
use Rattle.nearest.specs.Laws.{DistinctNearestReplies}

pub distinct_nearest_replies : DistinctNearestReplies
distinct_nearest_replies = distinct_results 1 _ (λ j k e. cc)
