-- Document 01, 'Two programs': the lines that the programs print.
use Rattle.std.specs.Prelude.{List, [], ◌∷◌, ◌++◌, ◌≡◌, ℕ, ◌≤◌, ℤ, length}
use Rattle.place.specs.declared.Place.{Place}
use Rattle.arrayvec.specs.ArrayString.{ArrayString}
use Rattle.text.specs.Decimals.{minus, decimal, signed}

abbrev pub space : ℕ
space = 32

abbrev pub newline : ℕ
newline = 10

-- the words of one line, one space between, and its newline
abbrev pub row : List (List ℕ) → List ℕ
row [] = newline ∷ []
row (word ∷ []) = word ++ (newline ∷ [])
row (word ∷ next ∷ words) = word ++ (space ∷ row (next ∷ words))

-- `places`, `refused`, `at`, and `-` for none
abbrev pub places_word : List ℕ
places_word = 112 ∷ 108 ∷ 97 ∷ 99 ∷ 101 ∷ 115 ∷ []

abbrev pub refused_word : List ℕ
refused_word = 114 ∷ 101 ∷ 102 ∷ 117 ∷ 115 ∷ 101 ∷ 100 ∷ []

abbrev pub at_word : List ℕ
at_word = 97 ∷ 116 ∷ []

abbrev pub dash : List ℕ
dash = minus ∷ []

-- It prints `places N`,
unfoldable pub count_line : ℕ → List ℕ
count_line n = row (places_word ∷ decimal n ∷ [])

-- then per place id, latitude, longitude, x, y in decimal, one space between.
unfoldable pub place_line : Place → List ℕ
place_line p = row (decimal p.«id» ∷ signed p.«latitude» ∷ signed p.«longitude» ∷ signed p.«x» ∷ signed p.«y» ∷ [])

-- A refused file prints only `refused R at B`.
unfoldable pub file_refused_line : (number offset : ℕ) → List ℕ
file_refused_line number offset = row (refused_word ∷ decimal number ∷ at_word ∷ decimal offset ∷ [])

-- It prints latitude, longitude and the id of the nearest place at the usual reach,
unfoldable pub found_line : (latitude longitude : ℤ) (id : ℕ) → List ℕ
found_line latitude longitude id = row (signed latitude ∷ signed longitude ∷ decimal id ∷ [])

-- or `-` for none;
unfoldable pub nothing_found_line : (latitude longitude : ℤ) → List ℕ
nothing_found_line latitude longitude = row (signed latitude ∷ signed longitude ∷ dash ∷ [])

-- or `refused R`.
unfoldable pub refused_line : (number : ℕ) → List ℕ
refused_line number = row (refused_word ∷ decimal number ∷ [])

-- The crowding report (document 02, E2) prints a line for each place: its id, one space, how many others lie within the usual reach of it.
unfoldable pub crowd_line : (id others : ℕ) → List ℕ
crowd_line id others = row (decimal id ∷ decimal others ∷ [])

-- A `Line` has room for a text of up to 64 bytes.
abbrev pub line_size : ℕ
line_size = 64

abbrev pub text_of : ArrayString → List ℕ
text_of l = l.bytes

-- a line that holds a text, which it has room for
abbrev pub Holds : ArrayString → (text : List ℕ) → Type 0
Holds l text = (length text ≤ line_size) × (text_of l ≡ text)
