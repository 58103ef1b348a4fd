-- A number that is written is read back, and four bytes that are read are written back. Assumes nothing.
use mathlib.Core.Path.{◌≡◌, refl, sym, ap, ◌∙◌}
use mathlib.Core.List.{List, [], ◌∷◌, ◌++◌}
use Prim.Native.Nat.{ℕ, zero, suc, ◌+◌, ◌*◌, ◌<◌, ◌≤◌}
use native.Mathlib.Omega.{arith}
use native.Mathlib.Numerals.{add-one, add-two, add-three}
use lib.ListN.{get_or, length, take, drop, take-append-drop}
use lib.Seq.{drop-cons, drop-drop}
use Rattle.std.proofs.lemmas.Nat.{le_bytes_4, from_le_bytes-to_le_bytes_4}
use Rattle.little_endian.specs.Numbers.{u32_at, i32_at, signed, unsigned, u32_bytes, Bytes, IsI32, IsU32}
use Rattle.little_endian.specs.Laws.{U32Back, I32Back, U32Forth, I32Forth}
use Rattle.little_endian.proofs.Bits.{signed-unsigned, unsigned_signed, unsigned-fits, signed-fits}

pub u32_back : U32Back
unfolding u32_bytes
u32_back u rest h = omega (arith, from_le_bytes-to_le_bytes_4 u h)

pub i32_back : I32Back
unfolding i32_at
i32_back z rest h = ap signed (u32_back (unsigned z) rest (unsigned-fits z h)) ∙ signed-unsigned z h

-- what is read from bytes fits 32 bits
pub u32_below : (b : List ℕ) (at : ℕ) → Bytes b → IsU32 (u32_at b at)
u32_below b at h = omega (arith, h at, h (at + 1), h (at + 2), h (at + 3))

pub i32_below : (b : List ℕ) (at : ℕ) → Bytes b → IsI32 (i32_at b at)
unfolding i32_at
i32_below b at h = signed-fits (u32_at b at) (u32_below b at h)

-- four bytes are those of the number that they give
module _ (a b c d : ℕ) (ha : a < 256) (hb : b < 256) (hc : c < 256) (hd : d < 256) where
  each : (i : ℕ) → get_or (a ∷ b ∷ c ∷ d ∷ []) i 0 < 256
  each zero = ha
  each (suc zero) = hb
  each (suc (suc zero)) = hc
  each (suc (suc (suc zero))) = hd
  each (suc (suc (suc (suc i)))) = omega arith

  digits : u32_bytes (a + 256 * b + 65536 * c + 16777216 * d) ≡ a ∷ b ∷ c ∷ d ∷ []
  unfolding u32_bytes
  digits = le_bytes_4 (a ∷ b ∷ c ∷ d ∷ []) _ refl each (omega arith)

-- the four elements from `at`
four : (b : List ℕ) (at : ℕ) → at + 4 ≤ length b → take 4 (drop at b) ≡ get_or b at 0 ∷ get_or b (at + 1) 0 ∷ get_or b (at + 2) 0 ∷ get_or b (at + 3) 0 ∷ []
four b at h =
    rw (
      add-one at,
      add-two at,
      add-three at,
      drop-cons b at 0 (omega arith),
      drop-cons b (suc at) 0 (omega arith),
      drop-cons b (suc (suc at)) 0 (omega arith),
      drop-cons b (suc (suc (suc at))) 0 (omega arith),
    )

pub u32_forth : U32Forth
u32_forth b at h l = digits _ _ _ _ (h at) (h (at + 1)) (h (at + 2)) (h (at + 3)) ∙ sym (four b at l)

pub i32_forth : I32Forth
unfolding i32_at
i32_forth b at h l = ap u32_bytes (unsigned_signed (u32_at b at) (u32_below b at h)) ∙ u32_forth b at h l

-- a number that is read and written back, before what stands behind it
module _ (b : List ℕ) (h : Bytes b) (at : ℕ) (l : at + 4 ≤ length b) {rest : List ℕ} (e : rest ≡ drop (at + 4) b) where
  four_then : take 4 (drop at b) ++ rest ≡ drop at b
  four_then = rw (e, ← (drop-drop 4 at b)) (take-append-drop 4 (drop at b))

  pub u32_then : u32_bytes (u32_at b at) ++ rest ≡ drop at b
  u32_then = rw (u32_forth b at h l) four_then

  pub i32_then : u32_bytes (unsigned (i32_at b at)) ++ rest ≡ drop at b
  i32_then = rw (i32_forth b at h l) four_then
