-- How the code reads a tap's line: its two coordinates, digit by digit. What comes of it is in TapLines.
use Rattle.std.specs.Prelude.{Bool, cond, ◌&&◌, List, ℕ, ◌+◌, ◌-◌, ◌*◌, ltb, ℤ, pos, neg_ℤ, Option, Some, None, Result, Ok, Err}
use Rattle.arith.specs.Bounds.{size_up_to}
use Rattle.refusal.specs.declared.Refusal.{Refusal}
use Rattle.refusal.specs.declared.Refusal.TheVariants.{OutOfRange}
use Rattle.conic.specs.MapToGlobe.{point_limit}
use Rattle.conic.specs.declared.MapPoint.{MapPoint}
use Rattle.text.specs.Decimals.{is_digit, is_numeral, is_number, spelled_from, spelled}

-- how a coordinate is read: the number, where there is one and it is in range
unfoldable pub coordinate_of : List ℕ → Option ℤ
coordinate_of bs = cond (is_number bs && size_up_to point_limit (spelled bs)) (Some (spelled bs)) None

abbrev pub point_of : Option ℤ → Option ℤ → Result MapPoint Refusal
point_of (Some x) (Some y) = Ok (record { «x» = x; «y» = y })
point_of (Some x) None = Err OutOfRange
point_of None y = Err OutOfRange

-- what digits spell, where that is not too large; what is no digits spells nothing
abbrev pub too_large : ℕ
too_large = 1 + point_limit

unfoldable pub sized_coordinate : (negative : Bool) (size : ℕ) → Option ℤ
sized_coordinate negative size = cond (ltb size too_large) (Some (cond negative (neg_ℤ (pos size)) (pos size))) None

unfoldable pub with_digit : ℕ → (byte : ℕ) → Option ℕ
with_digit v b = let next = 10 * v + (b - 48) in cond (is_digit b && ltb next too_large) (Some next) None

unfoldable pub numeral_of : List ℕ → Option ℕ
numeral_of bs = cond (is_numeral bs && ltb (spelled_from 0 bs) too_large) (Some (spelled_from 0 bs)) None
