-- Document 01, 'The atlas file': a name is 16 bytes: 1 to 16 bytes of value 32 to 126, then zeros.
use Rattle.std.specs.Prelude.{ℕ, Bool, true, ◌&&◌, ◌||◌, List, [], ◌∷◌, get_or, length, leb, eqb}

-- a byte of value 32 to 126: a printable character of ASCII
abbrev pub is_printable : ℕ → Bool
is_printable b = leb 32 b && leb b 126

abbrev pub are_zeros : List ℕ → Bool
are_zeros [] = true
are_zeros (b ∷ bs) = are_zeros bs && eqb b 0

-- bytes of value 32 to 126, then zeros
abbrev pub are_printable_then_zeros : List ℕ → Bool
are_printable_then_zeros [] = true
are_printable_then_zeros (b ∷ bs) = are_zeros (b ∷ bs) || (are_printable_then_zeros bs && is_printable b)

-- 16 bytes, the first of value 32 to 126
unfoldable pub is_name : List ℕ → Bool
is_name bs = eqb (length bs) 16 && are_printable_then_zeros bs && is_printable (get_or bs 0 0)
