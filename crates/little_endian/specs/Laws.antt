-- Numbers there and back. Each law is proved in proofs/, in the file that its comment names.
use Rattle.std.specs.Prelude.{ℕ, ◌+◌, ◌≤◌, ◌≡◌, List, ◌++◌, length, take, drop, ℤ}
use Rattle.little_endian.specs.Numbers.{u32_at, i32_at, unsigned, u32_bytes, Bytes, IsI32, IsU32}

-- a number that is written is read back (NumberLaws)
abbrev pub U32Back : Type 0
U32Back = (u : ℕ) (rest : List ℕ) → IsU32 u → u32_at (u32_bytes u ++ rest) 0 ≡ u

abbrev pub I32Back : Type 0
I32Back = (z : ℤ) (rest : List ℕ) → IsI32 z → i32_at (u32_bytes (unsigned z) ++ rest) 0 ≡ z

-- and four bytes that are read are written back (NumberLaws)
abbrev pub U32Forth : Type 0
U32Forth = (b : List ℕ) (at : ℕ) → Bytes b → at + 4 ≤ length b → u32_bytes (u32_at b at) ≡ take 4 (drop at b)

abbrev pub I32Forth : Type 0
I32Forth = (b : List ℕ) (at : ℕ) → Bytes b → at + 4 ≤ length b → u32_bytes (unsigned (i32_at b at)) ≡ take 4 (drop at b)
