-- Two answers to a tap's line never share a reply. Assumes nothing.
use mathlib.Core.List.{List, ◌∷◌, []}
use mathlib.Core.Path.{ap}
use lib.IntN.{ℤ, pos}
use lib.ListN.{get_or}
use Rattle.refusal.proofs.Distinct.{distinct_results}
use Rattle.conic.specs.declared.MapPoint.{MapPoint}
use Rattle.text.specs.Laws.{DistinctLineReplies}

values_of : MapPoint → List ℤ
values_of p = p.«x» ∷ p.«y» ∷ []

point_of : List ℤ → MapPoint
point_of values = record { «x» = get_or values 0 (pos 0); «y» = get_or values 1 (pos 0) }

pub distinct_line_replies : DistinctLineReplies
unfolding values_of point_of
distinct_line_replies = distinct_results 2 values_of (λ p q e. ap point_of e)
