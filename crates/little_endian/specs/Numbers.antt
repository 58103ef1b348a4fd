-- Document 01, 'The atlas file': all numbers little-endian. A number of 32 bits takes four bytes; a signed one is in two's complement.
use Rattle.std.specs.Prelude.{ℕ, suc, ◌+◌, ◌-◌, ◌*◌, ◌/◌, ◌%◌, ◌^◌, ◌<◌, cond, List, [], ◌∷◌, ◌++◌, get_or, length, take, drop, ltb, ℤ, pos, negsuc}
use Rattle.std.specs.Int.Signed.{mag}

-- the number in the four bytes from `at`, the lowest first
abbrev pub u32_at : List ℕ → (at : ℕ) → ℕ
u32_at b at = get_or b at 0 + 256 * get_or b (at + 1) 0 + 65536 * get_or b (at + 2) 0 + 16777216 * get_or b (at + 3) 0

-- the signed number whose two's complement is u: u below 2^31, else u - 2^32 (negsuc k is -(k + 1))
unfoldable pub signed : ℕ → ℤ
signed u = cond (ltb u (2 ^ 31)) (pos u) (negsuc (2 ^ 32 - suc u))

-- the two's complement of a signed number
unfoldable pub unsigned : ℤ → ℕ
unsigned (pos n) = n
unsigned (negsuc n) = 2 ^ 32 - suc n

-- the signed number in the four bytes from `at`
unfoldable pub i32_at : List ℕ → (at : ℕ) → ℤ
i32_at b at = signed (u32_at b at)

-- the four bytes of a number
unfoldable pub u32_bytes : ℕ → List ℕ
u32_bytes u = u % 256 ∷ u / 256 % 256 ∷ u / 65536 % 256 ∷ u / 16777216 % 256 ∷ []

-- the bytes of numbers one after the other
unfoldable pub numbers_bytes : List ℕ → List ℕ
numbers_bytes [] = []
numbers_bytes (u ∷ us) = u32_bytes u ++ numbers_bytes us

-- the list l with vs from `at` on, in place of as many elements
unfoldable pub put : List ℕ → (at : ℕ) → List ℕ → List ℕ
put l at vs = take at l ++ vs ++ drop (at + length vs) l

-- what a slice of bytes holds: numbers below 256
abbrev pub Bytes : List ℕ → Type 0
Bytes b = (i : ℕ) → get_or b i 0 < 256

-- what a signed 32-bit number is (`mag` of k is k, and so of -(k + 1): from -2^31 up to 2^31 - 1), and an unsigned one
abbrev pub IsI32 : ℤ → Type 0
IsI32 z = mag z < 2 ^ 31

abbrev pub IsU32 : ℕ → Type 0
IsU32 u = u < 2 ^ 32
