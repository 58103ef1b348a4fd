-- Document 01, 'Two programs': numbers in decimal. Text is a list of bytes in ASCII.
use Rattle.std.specs.Prelude.{Bool, true, false, cond, ◌&&◌, List, [], ◌∷◌, ◌++◌, ℕ, zero, suc, ◌+◌, ◌-◌, ◌*◌, ◌/◌, ◌%◌, ltb, leb, eqb, ℤ, pos, negsuc, neg_ℤ, length}

-- `-`
abbrev pub minus : ℕ
minus = 45

-- `0` to `9`
abbrev pub digit : ℕ → ℕ
digit d = 48 + d

-- a number's digits, the last of them found first, with a bound on how many there are
unfoldable pub digits_up_to : (most : ℕ) → ℕ → List ℕ
digits_up_to zero n = []
digits_up_to (suc most) n = elim (ltb n 10) [ true ↦ digit n ∷ [] | false ↦ digits_up_to most (n / 10) ++ (digit (n % 10) ∷ []) ]

-- the bound never decides (Laws: OneDigit, MoreDigits)
unfoldable pub decimal : ℕ → List ℕ
decimal n = digits_up_to (suc n) n

-- a whole number: a minus before it where it is below 0
unfoldable pub signed : ℤ → List ℕ
signed (pos n) = decimal n
signed (negsuc n) = minus ∷ decimal (suc n)

-- And back.
abbrev pub is_digit : ℕ → Bool
is_digit b = leb 48 b && leb b 57

abbrev pub are_digits : List ℕ → Bool
are_digits [] = true
are_digits (b ∷ bs) = is_digit b && are_digits bs

-- the number that digits spell, behind digits that spell v
abbrev pub spelled_from : (v : ℕ) → List ℕ → ℕ
spelled_from v [] = v
spelled_from v (b ∷ bs) = spelled_from (10 * v + (b - 48)) bs

-- one digit or more
unfoldable pub is_numeral : List ℕ → Bool
is_numeral bs = ltb 0 (length bs) && are_digits bs

-- decimal whole numbers, a leading minus allowed
unfoldable pub is_number : List ℕ → Bool
is_number [] = false
is_number (b ∷ bs) = cond (eqb b minus) (is_numeral bs) (is_numeral (b ∷ bs))

-- the number that such a text spells
unfoldable pub spelled : List ℕ → ℤ
spelled [] = pos 0
spelled (b ∷ bs) = cond (eqb b minus) (neg_ℤ (pos (spelled_from 0 bs))) (pos (spelled_from 0 (b ∷ bs)))
