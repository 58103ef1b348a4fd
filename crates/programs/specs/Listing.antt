-- Document 01, 'Two programs': the lister reads an atlas file. It prints `places N`, then a line per place. A refused file prints only
-- `refused R at B`.
use Rattle.std.specs.Prelude.{cond, List, [], ◌∷◌, ◌++◌, ◌≡◌, ℕ, ◌+◌, eqb, length}
use Rattle.little_endian.specs.Numbers.{put}
use Rattle.place.specs.declared.Place.{Place}
use Rattle.atlas_file.specs.Steps.{most_places}
use Rattle.atlas_file.specs.Reading.{read_reply, places_read}
use Rattle.text.specs.Lines.{count_line, place_line, file_refused_line}

-- a text stands in a buffer from `at` on, up to `end`; the other bytes are as they were
abbrev pub Stands : (at : ℕ) (text : List ℕ) (end : ℕ) (before after : List ℕ) → Type 0
Stands at text end before after = (end ≡ at + length text) × (after ≡ put before at text)

-- a line per place
abbrev pub place_lines : List Place → List ℕ
place_lines [] = []
place_lines (p ∷ ps) = place_line p ++ place_lines ps

-- all that the lister prints of a file
unfoldable pub listing_of : (file : List ℕ) → List ℕ
listing_of file =
    let reply = read_reply file most_places in
    cond (eqb reply.number 0) (count_line reply.count ++ place_lines (places_read file most_places)) (file_refused_line reply.number reply.offset)
