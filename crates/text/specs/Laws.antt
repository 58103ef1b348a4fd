-- What holds of text. Each is proved in proofs/, in the file that its comment names.
use Rattle.std.specs.Prelude.{true, List, [], ◌∷◌, ◌++◌, ◌≡◌, ℕ, ◌≤◌, ◌<◌, ◌+◌, ◌/◌, ◌%◌, ◌^◌, ℤ, length, take, Result}
use Rattle.refusal.specs.declared.Refusal.{Refusal}
use Rattle.refusal.specs.Numbers.{accepted}
use Rattle.conic.specs.MapToGlobe.{point_in_range}
use Rattle.conic.specs.declared.MapPoint.{MapPoint}
use Rattle.arrayvec.specs.ArrayString.{ArrayString}
use Rattle.text.specs.Decimals.{digit, decimal, signed, is_number, spelled}
use Rattle.text.specs.Lines.{space, line_size, text_of, Holds}
use Rattle.text.specs.TapLines.{start_size, line_reply, line_reply_of}

-- a number below 10 is its digit; any other is what is before its last digit, then that digit (Digits)
abbrev pub OneDigit : Type 0
OneDigit = (n : ℕ) → n < 10 → decimal n ≡ digit n ∷ []

abbrev pub MoreDigits : Type 0
MoreDigits = (n : ℕ) → 10 ≤ n → decimal n ≡ decimal (n / 10) ++ (digit (n % 10) ∷ [])

-- how many digits there are at most (Digits)
abbrev pub DigitsAtMost : Type 0
DigitsAtMost = (k n : ℕ) → n < 10 ^ (1 + k) → length (decimal n) ≤ 1 + k

-- a number that is written is read as itself (Spelled)
abbrev pub ReadsBack : Type 0
ReadsBack = (z : ℤ) → (is_number (signed z) ≡ true) × (spelled (signed z) ≡ z)

-- a line that holds a text gives it back, and its text is within its room (Building)
abbrev pub HeldText : Type 0
HeldText = (l : ArrayString) (text : List ℕ) → Holds l text → text_of l ≡ text

abbrev pub HeldWithin : Type 0
HeldWithin = (l : ArrayString) (text : List ℕ) → Holds l text → length (text_of l) ≤ line_size

-- a point that is written as a tap's line is read as itself (TapLaws)
abbrev pub TapReadsBack : Type 0
TapReadsBack = (x y : ℤ) → point_in_range x y ≡ true → line_reply (signed x ++ (space ∷ signed y)) ≡ accepted (x ∷ y ∷ [])

-- the first bytes of a line tell what it is (TapLaws)
abbrev pub FirstBytesTell : Type 0
FirstBytesTell = (line : List ℕ) → line_reply (take start_size line) ≡ line_reply line

-- two answers never share a number and values, so that the contract fixes the answer (Answers)
abbrev pub DistinctLineReplies : Type 0
DistinctLineReplies = (a b : Result MapPoint Refusal) → line_reply_of a ≡ line_reply_of b → a ≡ b
