-- `signed` and `unsigned` are the library's readings of 32 bits as an i32 and back, `to_z w32` and `of_z w32`. Assumes nothing.
use mathlib.Core.Path.{◌≡◌, refl, ap, ◌∙◌}
use mathlib.Core.Bool.{Bool, true, false, cond}
use Prim.Native.Nat.{ℕ, suc, ◌-◌, ◌^◌}
use lib.Dec.{ltb}
use lib.IntN.{ℤ, pos, negsuc}
use mir.Syntax.{w32}
use mir.Val.{to_z, of_z, sel}
use mir.Facts.{Fits-of_z, sfits_to_z}
use Rattle.std.proofs.lemmas.Int.{to_z-of_z, of_z-to_z}
use Rattle.little_endian.specs.Numbers.{signed, unsigned, IsI32, IsU32}

cond_sel : (b : Bool) (x y : ℤ) → cond b x y ≡ sel b x y
cond_sel true x y = refl
cond_sel false x y = refl

pub signed_is_cast : (u : ℕ) → signed u ≡ to_z w32 u
unfolding signed
signed_is_cast u = cond_sel (ltb u (2 ^ 31)) (pos u) (negsuc (2 ^ 32 - suc u))

pub unsigned_is_cast : (z : ℤ) → unsigned z ≡ of_z w32 z
unfolding unsigned
unsigned_is_cast (pos n) = refl
unsigned_is_cast (negsuc n) = refl

pub signed-unsigned : (z : ℤ) → IsI32 z → signed (unsigned z) ≡ z
signed-unsigned z h = signed_is_cast (unsigned z) ∙ ap (to_z w32) (unsigned_is_cast z) ∙ to_z-of_z w32 z (record { sfits = h })

pub unsigned_signed : (u : ℕ) → IsU32 u → unsigned (signed u) ≡ u
unsigned_signed u h = unsigned_is_cast (signed u) ∙ ap (of_z w32) (signed_is_cast u) ∙ of_z-to_z w32 u h

pub unsigned-fits : (z : ℤ) → IsI32 z → IsU32 (unsigned z)
unsigned-fits z h = rw (unsigned_is_cast z) (Fits-of_z {w = w32} {z = z} (record { sfits = h })).fits

pub signed-fits : (u : ℕ) → IsU32 u → IsI32 (signed u)
signed-fits u h = rw (signed_is_cast u) (sfits_to_z {w = w32} (record { fits = h })).sfits
