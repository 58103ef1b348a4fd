-- The report goes by 50,000. Assumes nothing.
use mathlib.Core.List.{List, [], ◌∷◌, ◌++◌}
use mathlib.Core.Path.{◌≡◌, refl, ap}
use Prim.Native.Nat.{ℕ, suc}
use Rattle.place.specs.declared.Place.{Place}
use Rattle.nearest.specs.Taps.{usual_reach}
use Rattle.atlas_file.specs.Steps.{most_places}
use Rattle.atlas_file.specs.Reading.{places_read}
use Rattle.text.specs.Lines.{crowd_line}
use Rattle.crowding_report.specs.Crowding.{others_within, crowd_lines_from, crowding_of}
use Rattle.crowding_report.specs.Before.{lines_before, ReportedAsBefore}

same_lines : (k : ℕ) (all left : List Place) → crowd_lines_from k all left ≡ lines_before k all left
same_lines k all [] = refl
same_lines k all (p ∷ ps) = ap (λ lines. crowd_line p.«id» (others_within all k usual_reach) ++ lines) (same_lines (suc k) all ps)

pub reported_as_before : ReportedAsBefore
unfolding crowding_of
reported_as_before file = let ps = places_read file most_places in rw (same_lines 0 ps ps)
