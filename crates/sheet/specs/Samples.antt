-- Document 01, 'Examples on both sides': sheet A.
use Rattle.std.specs.Prelude.{ℕ, pos}
use Rattle.sheet.specs.declared.Sheet.{Sheet}

-- sheet A with a half-width w and a cone constant n
abbrev pub sheet_a_with : (w n : ℕ) → Sheet
sheet_a_with w n = record {
  first_parallel = pos 30000000;
  second_parallel = pos 30000000;
  origin_latitude = pos 30000000;
  central_meridian = pos 10000000;
  south_edge = pos 20000000;
  north_edge = pos 40000000;
  half_width = w;
  cone_constant = n;
  radius_constant = pos 129239201;
}

abbrev pub sheet_a : Sheet
sheet_a = sheet_a_with 60000000 536870912
