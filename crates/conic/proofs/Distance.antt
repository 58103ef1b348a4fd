-- The distance of a map point from the cone's apex is a root that `trig` takes. Assumes nothing.
use mathlib.Core.Path.{◌≡◌, subst}
use mathlib.Core.Bool.{true}
use lib.IntN.{ℤ, pos, ◌+ℤ◌, ◌*ℤ◌}
use lib.Signed.{◌<ℤ◌}
use Rattle.arith.specs.Bounds.{Size}
use Rattle.arith.proofs.Parts.{linear, sub_parts}
use Rattle.arith.proofs.Order.{abs_parts}
use Rattle.arith.proofs.Tests.{said, facts}
use Rattle.arith.proofs.Fits.{cast_is, within}
use Rattle.trig.specs.Trig.{Root}
use Rattle.trig.proofs.Roots.{is_root}
use Rattle.cone.specs.Cone.{IsV, radius_at}
use Rattle.cone.proofs.Sizes.{q_range}
use Rattle.sheet.specs.declared.Sheet.{Sheet}
use Rattle.sheet.specs.Sheets.{passes_checks}
use Rattle.conic.specs.Conic.{r0}
use Rattle.conic.specs.MapToGlobe.{point_limit, v_of}
use Rattle.conic.specs.Laws.{RadiusIsRoot}
use Rattle.conic.proofs.Ranges.{r0_size}

-- v of a point in range that lies below the apex
pub v_range : (s : Sheet) (y : ℤ) → passes_checks s ≡ true → Size (pos point_limit) y → pos 0 <ℤ v_of s y → IsV (v_of s y)
v_range s y p h k = let z = r0_size s p in omega (linear, sub_parts (r0 s) y)

pub radius_is_root : RadiusIsRoot
unfolding radius_at
radius_is_root s x y p i h =
    let t = facts i (search said depth 9) in
    let v = v_of s y in
    let range = q_range x v (omega linear) (v_range s y p (omega linear) h) in
    let a = abs_parts (x *ℤ x +ℤ v *ℤ v) in
    subst (λ z. Root z (radius_at x v)) (cast_is (within range) tt) (is_root _ (omega (linear, range.low, a)) (omega (linear, range.high, a))).0
