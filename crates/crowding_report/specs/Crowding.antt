-- Document 02, E2: a crowding report reads a file as the lister does and prints a line for each place in file order: its id, one space, how many
-- others lie within the usual reach of it.
use Rattle.std.specs.Prelude.{cond, List, [], ◌∷◌, ◌++◌, ℕ, suc, eqb, ℤ, length, get_or, take, drop}
use Rattle.place.specs.declared.Place.{Place}
use Rattle.place.specs.Places.{blank_place}
use Rattle.nearest.specs.Taps.{within_reach, usual_reach}
use Rattle.atlas_file.specs.Steps.{most_places}
use Rattle.atlas_file.specs.Reading.{read_reply, places_read}
use Rattle.text.specs.Lines.{crowd_line, file_refused_line}

-- all places but the one at k
abbrev pub others_of : List Place → (k : ℕ) → List Place
others_of ps k = take k ps ++ drop (suc k) ps

-- how many others lie within a reach of the place at k
unfoldable pub others_within : List Place → (k : ℕ) (reach : ℤ) → ℕ
others_within ps k reach = let p = get_or ps k blank_place in length (within_reach (others_of ps k) p.«x» p.«y» reach)

-- a line for each place from k on: its id, one space, how many others lie within the usual reach of it
abbrev pub crowd_lines_from : (k : ℕ) (all left : List Place) → List ℕ
crowd_lines_from k all [] = []
crowd_lines_from k all (p ∷ ps) = crowd_line p.«id» (others_within all k usual_reach) ++ crowd_lines_from (suc k) all ps

abbrev pub crowd_lines : List Place → List ℕ
crowd_lines ps = crowd_lines_from 0 ps ps

-- all that the report prints of a file
unfoldable pub crowding_of : (file : List ℕ) → List ℕ
crowding_of file =
    let reply = read_reply file most_places in
    cond (eqb reply.number 0) (crowd_lines (places_read file most_places)) (file_refused_line reply.number reply.offset)
