-- Two answers of one kind never share a number and values. Assumes nothing.
use mathlib.Core.Path.{◌≡◌, ap₂}
use lib.IntN.{ℤ}
use Rattle.refusal.proofs.Distinct.{distinct_results}
use Rattle.conic.specs.declared.MapPoint.{MapPoint}
use Rattle.conic.specs.declared.Position.{Position}
use Rattle.conic.specs.Laws.{DistinctMapReplies, DistinctGlobeReplies}

abbrev point : ℤ → ℤ → MapPoint
point x y = record { x = x; y = y }

pub distinct_map_replies : DistinctMapReplies
distinct_map_replies a b e =
    distinct_results 2 _ (λ (p q : MapPoint) k. let x : p.x ≡ q.x = cc in let y : p.y ≡ q.y = cc in ap₂ point x y) a b e

abbrev position : ℤ → ℤ → Position
position latitude longitude = record { latitude = latitude; longitude = longitude }

pub distinct_globe_replies : DistinctGlobeReplies
distinct_globe_replies a b e =
    distinct_results 2 _ (λ (p q : Position) k. let f : p.latitude ≡ q.latitude = cc in let l : p.longitude ≡ q.longitude = cc in ap₂ position f l) a b e
