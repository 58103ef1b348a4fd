-- Document 01, 'Examples on both sides', cases 11 and 12: what the programs print, also of an empty file.
use Rattle.std.specs.Prelude.{ℕ, ◌≡◌, List, [], ◌∷◌}
use Rattle.programs.specs.Listing.{listing_of}
use Rattle.programs.specs.Tapping.{tap_output}
use Rattle.examples.specs.Files.{mill_file}

-- The lister, given it, prints in full: `places 1`, a newline, `7 31000000 10000000 0 1000000`, a newline
abbrev pub MillListed : Type 0
MillListed =
    listing_of mill_file
    ≡ 112 ∷ 108 ∷ 97 ∷ 99 ∷ 101 ∷ 115 ∷ 32 ∷ 49 ∷ 10
    ∷ 55 ∷ 32 ∷ 51 ∷ 49 ∷ 48 ∷ 48 ∷ 48 ∷ 48 ∷ 48 ∷ 48 ∷ 32 ∷ 49 ∷ 48 ∷ 48 ∷ 48 ∷ 48 ∷ 48 ∷ 48 ∷ 48 ∷ 32 ∷ 48 ∷ 32 ∷ 49 ∷ 48 ∷ 48 ∷ 48 ∷ 48 ∷ 48 ∷ 48 ∷ 10 ∷ []

-- the empty one prints `refused 1 at 0`
abbrev pub NothingListed : Type 0
NothingListed = listing_of [] ≡ 114 ∷ 101 ∷ 102 ∷ 117 ∷ 115 ∷ 101 ∷ 100 ∷ 32 ∷ 49 ∷ 32 ∷ 97 ∷ 116 ∷ 32 ∷ 48 ∷ 10 ∷ []

-- an `atlas.bin` that cannot be opened counts as empty: the same line and nothing more, whatever the input is
abbrev pub NothingTapped : Type 0
NothingTapped = (input : List ℕ) → tap_output [] input ≡ listing_of []

-- With that file, tap `0 1000000` prints `31000000 10000000 7`.
abbrev pub tap : List ℕ
tap = 48 ∷ 32 ∷ 49 ∷ 48 ∷ 48 ∷ 48 ∷ 48 ∷ 48 ∷ 48 ∷ 10 ∷ []

abbrev pub MillTapped : Type 0
MillTapped = tap_output mill_file tap ≡ 51 ∷ 49 ∷ 48 ∷ 48 ∷ 48 ∷ 48 ∷ 48 ∷ 48 ∷ 32 ∷ 49 ∷ 48 ∷ 48 ∷ 48 ∷ 48 ∷ 48 ∷ 48 ∷ 48 ∷ 32 ∷ 55 ∷ 10 ∷ []
