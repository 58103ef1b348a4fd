-- How large the numbers of a map point and of an offset are. Assumes nothing.
use mathlib.Core.List.{[], ◌∷◌}
use lib.IntN.{ℤ, pos, ◌+ℤ◌, ◌*ℤ◌}
use lib.Signed.{le_z_yes}
use Rattle.arith.specs.Bounds.{Within, Size}
use Rattle.arith.proofs.Quote.{ring!, quote}
use Rattle.arith.proofs.Parts.{linear}
use Rattle.arith.proofs.Order.{≤ℤ-trans}
use Rattle.arith.proofs.Cert.{◌⊞◌, ◌⊠◌, ◌·◌, sq, gap, le_by}
use Rattle.arith.proofs.Size.{size_wider, size-+, size-*}
use Rattle.arith.proofs.Fits.{inside_of, within, lit, r_sub, r_mul, r_quot}
use Rattle.trig.specs.Trig.{ONE, angle_of, square_of, sine_limit, root_limit}
use Rattle.trig.proofs.Sizes.{angle_size, sine-within, cosine-size}
use Rattle.cone.specs.Cone.{cone_angle_of, IsX, IsV, sine_at, cosine_at}
use Rattle.cone.specs.Settled.{least_rise}
use Rattle.cone.proofs.ConeAngles.{cone_angle_size}

-- a radius is up to 2^28 units
pub radius_angle_size : (a : ℤ) → Size (pos 268435456) a → Size (pos 5030569068) (angle_of a)
unfolding angle_of
radius_angle_size a h = angle_size (pos 268435456) a h

-- sine and cosine take the angle on the cone of an offset
pub cone_angle_range : (n d : ℤ) → Size ONE n → Size (pos 60000000) d → Size (pos sine_limit) (cone_angle_of n d)
unfolding angle_of
cone_angle_range n d n-up-to d-up-to = size_wider (le_z_yes tt) (cone_angle_size n (pos 60000000) d n-up-to d-up-to)

pub sine_at-size : (n d : ℤ) → Size ONE n → Size (pos 60000000) d → Size (pos sine_limit) (sine_at n d)
sine_at-size n d n-up-to d-up-to = sine-within (cone_angle_of n d) (cone_angle_range n d n-up-to d-up-to)

pub cosine_at-size : (n d : ℤ) → Size ONE n → Size (pos 60000000) d → Size ONE (cosine_at n d)
cosine_at-size n d n-up-to d-up-to = cosine-size (cone_angle_of n d) (cone_angle_range n d n-up-to d-up-to)

pub least_rise-size : (n w : ℤ) → Size ONE n → Size (pos 60000000) w → Size (pos 100) (least_rise n w)
unfolding least_rise square_of
least_rise-size n w n-up-to w-up-to =
    let t = within (cone_angle_range n w n-up-to w-up-to) in
    inside_of (r_quot 2147483648 (r_sub (r_mul (r_quot 1073741824 (r_mul (lit (pos 18)) (within n-up-to))) (r_sub (r_sub (lit (pos 2147483648)) (r_quot 1073741824 (r_mul t t))) (lit (pos 1)))) (r_mul (lit (pos 3)) t))) tt

-- the root takes x² + v²
pub q_range : (x v : ℤ) → IsX x → IsV v → Within (pos 1) (pos root_limit) (x *ℤ x +ℤ v *ℤ v)
q_range x v x-size v-in =
    let v-size : Size (pos 805306368) v = omega (linear, v-in) in
    let above = gap v-in.low in
    record {
      low = le_by (sq x ⊞ above ⊠ above ⊞ 2 · above) (ring! (x ∷ v ∷ []) (search quote depth 40) tt);
      high = ≤ℤ-trans (size-+ (size-* x-size x-size) (size-* v-size v-size)).high (le_z_yes tt);
    }
