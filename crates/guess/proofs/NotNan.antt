-- What is compared with a float, and found to be less or more, is a number. Assumes nothing.
use mathlib.Core.Path.{◌≡◌, sym}
use mathlib.Core.Bool.{true, true≢false, not}
use Prim.Native.Nat.{ℕ, ◌≤◌, ◌%◌}
use native.Mathlib.Omega.{arith}
use lib.Dec.{T}
use borrow.Author.Tests.{le-ltb}
use lib.Ieee.{Float, nan, inf, fin, lt, is_nan, binary64, nan_bits}
use lib.Ieee.Bits.{nan_bits_above}

pub less_not_nan : (m y : Float) → lt m y ≡ true → T (not (is_nan m))
unfolding lt is_nan
less_not_nan nan y e = absurd (true≢false (sym e))
less_not_nan (inf s) y e = tt
less_not_nan (fin s m d) y e = tt

pub more_not_nan : (y m : Float) → lt y m ≡ true → T (not (is_nan m))
unfolding lt is_nan
more_not_nan nan nan e = absurd (true≢false (sym e))
more_not_nan (inf s) nan e = absurd (true≢false (sym e))
more_not_nan (fin s k d) nan e = absurd (true≢false (sym e))
more_not_nan y (inf s) e = tt
more_not_nan y (fin s m d) e = tt

-- a pattern up to that of the infinity is a number's
pub small_not_nan : (bits : ℕ) → bits ≤ 9218868437227405312 → T (not (nan_bits binary64 bits))
small_not_nan bits h =
    let k : bits % 9223372036854775808 ≤ 9218868437227405312 = omega arith in
    rw (nan_bits_above binary64 bits, le-ltb 9218868437227405312 (bits % 9223372036854775808) k) tt
