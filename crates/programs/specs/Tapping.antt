-- Document 01, 'Two programs': the tap program reads lines of x, one space, y, and answers each.
use Rattle.std.specs.Prelude.{cond, List, [], ◌∷◌, ◌++◌, ℕ, ◌+◌, eqb, ltb, ℤ, pos, nat_abs, length, get_or, take, replicate, set}
use Rattle.refusal.specs.Numbers.{Reply}
use Rattle.sheet.specs.declared.Sheet.{Sheet}
use Rattle.conic.specs.MapToGlobe.{inverse_reply}
use Rattle.place.specs.declared.Place.{Place}
use Rattle.place.specs.Places.{blank_place}
use Rattle.nearest.specs.Taps.{nearest_reply, usual_reach}
use Rattle.atlas_file.specs.Steps.{most_places}
use Rattle.atlas_file.specs.Reading.{read_reply, places_read}
use Rattle.text.specs.Lines.{newline, file_refused_line, found_line, nothing_found_line, refused_line}
use Rattle.text.specs.TapLines.{start_size, line_reply}
use Rattle.programs.specs.declared.Begun.{Begun}

-- the n-th value of a reply, counted from 0
abbrev pub value_at : ℕ → Reply → ℤ
value_at n reply = get_or reply.values n (pos 0)

-- It prints latitude, longitude and the id of the nearest place at the usual reach, or `-` for none: that is 13, since the point is in range here
-- (Laws: NoneInReachDash)
unfoldable pub near_line : List Place → (x y latitude longitude : ℤ) → List ℕ
near_line ps x y latitude longitude =
    let near = nearest_reply ps x y usual_reach in
    cond (eqb near.number 0) (found_line latitude longitude (get_or ps (nat_abs (value_at 0 near)) blank_place).«id») (nothing_found_line latitude longitude)

-- or `refused R`.
unfoldable pub point_line : Sheet → List Place → (x y : ℤ) → List ℕ
point_line s ps x y =
    let position = inverse_reply s x y in
    cond (eqb position.number 0) (near_line ps x y (value_at 0 position) (value_at 1 position)) (refused_line position.number)

-- A line of another form gets `refused 12`.
unfoldable pub answer_to : Sheet → List Place → (line : List ℕ) → List ℕ
answer_to s ps line =
    let point = line_reply line in
    cond (eqb point.number 0) (point_line s ps (value_at 0 point) (value_at 1 point)) (refused_line point.number)

-- The answers to what is read after the beginning of a line: to each line when its newline comes; a last line without its newline is a line if it
-- has any byte.
abbrev pub answers_after : Sheet → List Place → (begun input : List ℕ) → List ℕ
answers_after s ps begun [] = cond (eqb (length begun) 0) [] (answer_to s ps begun)
answers_after s ps begun (b ∷ bs) = cond (eqb b newline) (answer_to s ps begun ++ answers_after s ps [] bs) (answers_after s ps (begun ++ (b ∷ [])) bs)

-- The tap program opens `atlas.bin` (refused: the same line and nothing more), then reads lines.
unfoldable pub tap_output : (file input : List ℕ) → List ℕ
tap_output file input =
    let reply = read_reply file most_places in
    cond (eqb reply.number 0) (answers_after reply.sheet (places_read file most_places) [] input) (file_refused_line reply.number reply.offset)

-- A `Begun` holds the first bytes of a line, up to 25, which are enough (Laws: PartsAnswered).
abbrev pub bytes_of : Begun → List ℕ
bytes_of g = take g.«length» g.«bytes»

unfoldable pub nothing_begun : Begun
nothing_begun = record { «bytes» = replicate start_size 0; «length» = 0 }

-- a byte more, where there is room
unfoldable pub begun_with : Begun → ℕ → Begun
begun_with g b = cond (ltb g.«length» start_size) (record { «bytes» = set g.«bytes» g.«length» b; «length» = g.«length» + 1 }) g

-- a byte is read: the line as far as it is begun then, and what is printed
abbrev pub begun_after : Begun → ℕ → Begun
begun_after g b = cond (eqb b newline) nothing_begun (begun_with g b)

abbrev pub printed_at : Sheet → List Place → Begun → ℕ → List ℕ
printed_at s ps g b = cond (eqb b newline) (answer_to s ps (bytes_of g)) []

-- a part of the input is read, byte by byte: the same
abbrev pub begun_by : Begun → (part : List ℕ) → Begun
begun_by g [] = g
begun_by g (b ∷ bs) = begun_by (begun_after g b) bs

abbrev pub printed_by : Sheet → List Place → Begun → (part : List ℕ) → List ℕ
printed_by s ps g [] = []
printed_by s ps g (b ∷ bs) = printed_at s ps g b ++ printed_by s ps (begun_after g b) bs

-- so many bytes of a part are taken at most
abbrev pub part_size : ℕ
part_size = 1024

abbrev pub taken : (part : List ℕ) → List ℕ
taken part = take part_size part

-- the input is at its end: what is printed
unfoldable pub printed_at_end : Sheet → List Place → Begun → List ℕ
printed_at_end s ps g = cond (eqb g.«length» 0) [] (answer_to s ps (bytes_of g))
