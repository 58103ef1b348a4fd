-- Inner steps, which no contract of a function that is offered to callers cites: by what one evaluation of sine and cosine settles the offset of a map point (Laws: SettledHere, SettledBefore).
use Rattle.std.specs.Prelude.{ℤ, pos, ◌-ℤ◌, ◌*ℤ◌}
use Rattle.std.specs.Int.Signed.{quot_z}
use Rattle.trig.specs.Trig.{ONE, square_of}
use Rattle.cone.specs.Cone.{cone_angle_of, sine_at, cosine_at}

-- how far a point lies east of d: x × cosine(d) - v × sine(d), in ONEths of a unit
abbrev pub east_of : (n x v d : ℤ) → ℤ
east_of n x v d = x *ℤ cosine_at n d -ℤ v *ℤ sine_at n d

-- by how much sine(d) rises at least from an offset, 0 or east of it, to the next, up to w (Laws: SineRisesLeast). The quotient 18 × n / ONE is the least that t goes further by; for each of these the sine rises by 1 less half the square of the edge's t, and rounding takes 3 t / 2
unfoldable pub least_rise : (n w : ℤ) → ℤ
least_rise n w =
    let t = cone_angle_of n w in
    quot_z (quot_z (pos 18 *ℤ n) ONE *ℤ (pos 2 *ℤ ONE -ℤ square_of t -ℤ pos 1) -ℤ pos 3 *ℤ t) (pos 2 *ℤ ONE)
