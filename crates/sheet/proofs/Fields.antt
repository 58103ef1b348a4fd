-- What a sheet's type says of its fields: each fits its type. Assumes nothing.
use denote.Laws.{valss}
use denote.Struct.Struct.{AreAll}
use denote.Struct.Declared.{fields}
use denote.Struct.Laws.{spells}
use lib.IntN.{ℤ}
use mir.Syntax.{w32, w64}
use mir.Val.{SFits, Fits, to_z, of_z}
use Rattle.arith.proofs.Fits.{Range, param, r_bits}
use Rattle.sheet.specs.declared.Sheet.{Sheet}
use Rattle.sheet.specs.Sheets.{f1, f2, f0, m0, fs, fn, g}
use Rattle.sheet.specs.contracts.Sheet.{the_type}
use Rattle.sheet.proofs.Sheet.TheLaws.{the_laws}

-- as the borrow checker has it, at a step `struct_told`
abbrev pub Told : Sheet → Type 0
Told s = AreAll (fields the_type) (the_type.to s) (valss (fields the_type) (spells the_type.parts the_laws) (the_type.to s))

pub record Typed (s : Sheet) : Type 0 where
  pub f1 : SFits w32 (f1 s)
  pub f2 : SFits w32 (f2 s)
  pub f0 : SFits w32 (f0 s)
  pub m0 : SFits w32 (m0 s)
  pub fs : SFits w32 (fs s)
  pub fn : SFits w32 (fn s)
  pub w : Fits w32 s.half_width
  pub n : Fits w32 s.cone_constant
  pub g : SFits w32 (g s)

-- a field, cast to i64, as the code has it
abbrev pub wide : {z : ℤ} → SFits w32 z → Range (to_z w64 (of_z w64 (to_z w32 (of_z w32 z))))
wide f = r_bits w64 (param f)

pub typed : {s : Sheet} → Told s → Typed s
typed t = record {
  f1 = record { sfits = t.0.1 };
  f2 = record { sfits = t.1.0.1 };
  f0 = record { sfits = t.1.1.0.1 };
  m0 = record { sfits = t.1.1.1.0.1 };
  fs = record { sfits = t.1.1.1.1.0.1 };
  fn = record { sfits = t.1.1.1.1.1.0.1 };
  w = record { fits = t.1.1.1.1.1.1.0.1 };
  n = record { fits = t.1.1.1.1.1.1.1.0.1 };
  g = record { sfits = t.1.1.1.1.1.1.1.1.0.1 };
}
