-- The crowding report of three villages within its reach of each other.
use Rattle.std.specs.Prelude.{◌≡◌, List, [], ◌∷◌, ◌++◌, pos}
use Rattle.place.specs.declared.Place.{Place}
use Rattle.text.specs.Lines.{crowd_line}
use Rattle.crowding_report.specs.Crowding.{crowd_lines}
use Rattle.examples.specs.Tables.{place_at}

-- three villages, 30,000, 40,000 and 50,000 units from each other
abbrev pub villages : List Place
villages = place_at 7 (pos 0) (pos 0) ∷ place_at 8 (pos 30000) (pos 0) ∷ place_at 9 (pos 0) (pos 40000) ∷ []

-- the report counts two others for each: `7 2`, `8 2`, `9 2`
abbrev pub VillagesReported : Type 0
VillagesReported = crowd_lines villages ≡ crowd_line 7 2 ++ crowd_line 8 2 ++ crowd_line 9 2
