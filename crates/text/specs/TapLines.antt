-- Document 01, 'Two programs': lines of x, one space, y, decimal whole numbers, a leading minus allowed, at most 24 bytes before the newline.
use Rattle.std.specs.Prelude.{Bool, cond, ◌&&◌, List, [], ◌∷◌, ℕ, ◌+◌, leb, eqb, ℤ, length, Result}
use Rattle.refusal.specs.declared.Refusal.{Refusal}
use Rattle.refusal.specs.declared.Refusal.TheVariants.{OutOfRange}
use Rattle.refusal.specs.Numbers.{Reply, accepted, reply_by}
use Rattle.refusal.specs.Rules.{Rule, ◌else-refuse◌, in_order}
use Rattle.conic.specs.MapToGlobe.{point_in_range}
use Rattle.conic.specs.declared.MapPoint.{MapPoint}
use Rattle.text.specs.Decimals.{is_number, spelled}
use Rattle.text.specs.Lines.{space}

-- at most 24 bytes before the newline
abbrev pub longest_tap : ℕ
longest_tap = 24

-- the bytes before the first space, and those after it
abbrev pub before_space : List ℕ → List ℕ
before_space [] = []
before_space (b ∷ bs) = cond (eqb b space) [] (b ∷ before_space bs)

abbrev pub after_space : List ℕ → List ℕ
after_space [] = []
after_space (b ∷ bs) = cond (eqb b space) bs (after_space bs)

-- x, one space, y, in at most so many bytes
unfoldable pub has_form : (line : List ℕ) → Bool
has_form line = leb (length line) longest_tap && is_number (before_space line) && is_number (after_space line)

-- the numbers before and after the space
unfoldable pub x_of : (line : List ℕ) → ℤ
x_of line = spelled (before_space line)

unfoldable pub y_of : (line : List ℕ) → ℤ
y_of line = spelled (after_space line)

-- A line of another form gets `refused 12`, and so does a number out of range.
unfoldable pub line_rules : (line : List ℕ) → List Rule
line_rules line = (has_form line else-refuse OutOfRange) ∷ (point_in_range (x_of line) (y_of line) else-refuse OutOfRange) ∷ []

unfoldable pub line_reply : (line : List ℕ) → Reply
line_reply line = in_order 2 (line_rules line) (accepted (x_of line ∷ y_of line ∷ []))

-- the number and the values that an answer stands for
abbrev pub line_reply_of : Result MapPoint Refusal → Reply
line_reply_of = reply_by 2 (λ point. point.«x» ∷ point.«y» ∷ [])

-- the first bytes of a line, enough to tell what it is
abbrev pub start_size : ℕ
start_size = 1 + longest_tap
