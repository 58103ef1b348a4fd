-- Angles on the cone: west and east mirror, none is larger than that on the globe, and from an offset to the next it goes at most 19. Assumes nothing.
use mathlib.Core.List.{[], ◌∷◌}
use mathlib.Core.Logic.{inl, inr, ⊎_elim}
use Prim.Native.Nat.{◌*◌, ◌-◌, ◌^◌}
use lib.Dec.{lit<}
use lib.IntN.{ℤ, pos, ◌+ℤ◌, ◌*ℤ◌}
use lib.Signed.{◌≤ℤ◌, ◌<ℤ◌, quot_z}
use Rattle.arith.specs.Bounds.{Size}
use Rattle.arith.proofs.Quote.{ring!, quote}
use Rattle.arith.proofs.Parts.{linear}
use Rattle.arith.proofs.Order.{≤ℤ-total}
use Rattle.arith.proofs.Cert.{◌⊞◌, ◌⊠◌, ◌·◌, num, gap, gap<, le_by}
use Rattle.arith.proofs.Laws.{*ℤ-negℤ, *ℤ-distribˡ-sub}
use Rattle.arith.proofs.Quot.{quot-neg, quot-nonneg, quot-mono, quot-≤, ≤-quot}
use Rattle.arith.proofs.Size.{size-*, size_is, size_within, quot-size, size_step}
use Rattle.trig.specs.Trig.{ONE, angle_factor, angle_of}
use Rattle.trig.proofs.Mirror.{angle_odd}
use Rattle.trig.proofs.Sizes.{angle_size}
use Rattle.trig.proofs.Spread.{angle_step}
use Rattle.cone.specs.Cone.{cone_angle_of}
use Rattle.cone.specs.Laws.{ConeAngleOdd, ConeAngleSize, ConeAngleStep, ConeAngleFurther, ConeAngleRises}

pub cone_angle_odd : ConeAngleOdd
unfolding cone_angle_of
cone_angle_odd n a = rw (angle_odd, *ℤ-negℤ) (quot-neg (n *ℤ angle_of a) 1073741824)

pub cone_angle_size : ConeAngleSize
unfolding cone_angle_of
cone_angle_size n m a h k = quot-size 1073741824 (lit< tt) (size-* h (angle_size m a k))

pub cone_angle_step : ConeAngleStep
unfolding cone_angle_of
cone_angle_step n d h =
    let a = angle_of d in
    let a' = angle_of (d +ℤ pos 1) in
    size_step 1073741824 (lit< tt) (n *ℤ a) (n *ℤ a') (size_is (size-* (size_within h) (size_within (angle_step d))) (*ℤ-distribˡ-sub n a' a))

-- angle goes up by 18 at least
angle_rises : (d d' : ℤ) → pos 0 ≤ℤ d → d <ℤ d' → (pos 0 ≤ℤ angle_of d) × ((angle_of d +ℤ pos 18) ≤ℤ angle_of d')
unfolding angle_of
angle_rises d d' d-least more =
    let a = angle_of d in
    let q = quot-nonneg (2 ^ 30) (lit< tt) (d *ℤ pos angle_factor) (d-least ⊠ num angle_factor) in (
      q.0,
      ≤-quot (2 ^ 30) (lit< tt) {a = d' *ℤ pos angle_factor} {m = a +ℤ pos 18}
          (le_by (gap q.1 ⊞ angle_factor · gap< more ⊞ num (angle_factor - 18 * 2 ^ 30)) (ring! (d ∷ d' ∷ a ∷ []) (search quote depth 40) tt)),
    )

pub cone_angle_rises : ConeAngleRises
unfolding cone_angle_of
cone_angle_rises n d d' n_within d-least more =
    let a = angle_of d in
    let a' = angle_of d' in
    let t = quot_z (n *ℤ a) ONE in
    let b = quot_z (pos 18 *ℤ n) ONE in
    let s = angle_rises d d' d-least more in
    let r = quot-nonneg (2 ^ 30) (lit< tt) (n *ℤ a) (n_within.low ⊠ s.0) in
    let e = quot-nonneg (2 ^ 30) (lit< tt) (pos 18 *ℤ n) (18 · n_within.low) in
    ≤-quot (2 ^ 30) (lit< tt) {a = n *ℤ a'} {m = t +ℤ b}
    (le_by (gap r.1 ⊞ n_within.low ⊠ gap s.1 ⊞ gap e.1) (ring! (n ∷ a ∷ a' ∷ t ∷ b ∷ []) (search quote depth 40) tt))

-- a quarter of ONE or more as n makes 18 to 4 at least
pub cone_angle_further : ConeAngleFurther
unfolding cone_angle_of angle_of
cone_angle_further n d d' n_within d-least more d'-most =
    let a = angle_of d in
    let a' = angle_of d' in
    let t = quot_z (n *ℤ a) ONE in
    let s = angle_rises d d' d-least more in
    let step = s.1 in
    let r = quot-nonneg (2 ^ 30) (lit< tt) (n *ℤ a) (n_within.low ⊠ s.0) in
    let d'-size : Size (pos 60000000) d' = omega linear in
    let n_size = size_within n_within in (
      r.0,
      ⊎_elim
          (λ (l : pos 268435456 ≤ℤ n). inl (
            ≤-quot (2 ^ 30) (lit< tt) {a = n *ℤ a'} {m = t +ℤ pos 4}
                (le_by (gap r.1 ⊞ n_within.low ⊠ gap step ⊞ 18 · gap l ⊞ num (18 * 268435456 - 4 * 2 ^ 30)) (ring! (n ∷ a ∷ a' ∷ t ∷ []) (search quote depth 40) tt)),
            (cone_angle_size n (pos 60000000) d' n_size d'-size).high,
          ))
          (λ (l : n ≤ℤ pos 268435456). inr (
            quot-mono (2 ^ 30) (lit< tt) {a = n *ℤ a} {c = n *ℤ a'} (le_by (n_within.low ⊠ (gap step ⊞ num 18)) (ring! (n ∷ a ∷ a' ∷ []) (search quote depth 40) tt)),
            quot-≤ (2 ^ 30) (lit< tt) {a = n *ℤ a'} {m = pos 281104952}
                (le_by (gap l ⊠ (gap step ⊞ s.0 ⊞ num 18) ⊞ 268435456 · gap (angle_size (pos 60000000) d' d'-size).high) (ring! (n ∷ a ∷ a' ∷ []) (search quote depth 40) tt)),
          ))
          (≤ℤ-total (pos 268435456) n),
    )
