-- Numbers as the functions take and store them, read back from their bits. Assumes nothing.
use mathlib.Core.Path.{◌≡◌, ◌∙◌}
use Prim.Native.Nat.{ℕ, ◌<◌, ◌^◌}
use native.Mathlib.Omega.{arith}
use lib.IntN.{ℤ, pos}
use lib.Signed.{mag}
use mir.Facts.{to_z-of_z, to_z_pos}
use mir.Syntax.{w32, w64}
use mir.Val.{Fits, SFits, to_z, of_z}
use Rattle.arith.proofs.Fits.{back}
use Rattle.sheet.specs.declared.Sheet.{Sheet}
use Rattle.test_interface.specs.Stored.{sheet_with}

-- a signed field, by `wide`; an unsigned one, cast
pub widened : {r z : ℤ} → mag r < 2 ^ 63 → r ≡ to_z w32 (of_z w32 z) → SFits w32 z → to_z w64 (of_z w64 r) ≡ z
widened {r} ok e f = back w64 r ok ∙ e ∙ to_z-of_z f

pub counted : {n : ℕ} → Fits w32 n → to_z w64 n ≡ pos n
counted f = to_z_pos w64 (omega (arith, f.fits))

-- the sheet of nine numbers that were passed
pub passed : {f1 f2 f0 m0 fs fn g : ℤ} {w n : ℕ} {s : Sheet} →
    s ≡ sheet_with (to_z w32 (of_z w32 f1)) (to_z w32 (of_z w32 f2)) (to_z w32 (of_z w32 f0)) (to_z w32 (of_z w32 m0)) (to_z w32 (of_z w32 fs)) (to_z w32 (of_z w32 fn)) w n (to_z w32 (of_z w32 g)) →
    SFits w32 f1 → SFits w32 f2 → SFits w32 f0 → SFits w32 m0 → SFits w32 fs → SFits w32 fn → SFits w32 g →
    s ≡ sheet_with f1 f2 f0 m0 fs fn w n g
passed {w = w} {n = n} e a b c d h k l = e ∙ (λ i. sheet_with (to_z-of_z a i) (to_z-of_z b i) (to_z-of_z c i) (to_z-of_z d i) (to_z-of_z h i) (to_z-of_z k i) w n (to_z-of_z l i))
