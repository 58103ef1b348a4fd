-- One offset settles where a point lies, if the point lies nearer to it than to the offsets beside it. Assumes nothing.
use mathlib.Core.Path.{◌≡◌, subst}
use mathlib.Core.Bool.{true, false}
use mathlib.Core.List.{[], ◌∷◌}
use mathlib.Core.Logic.{◌⊎◌, inl, inr, ⊎_elim}
use Prim.Native.Nat.{◌^◌}
use lib.Dec.{lit<}
use lib.IntN.{ℤ, pos, neg_ℤ, ◌+ℤ◌, ◌-ℤ◌, ◌*ℤ◌}
use lib.Signed.{quot_z, ◌≤ℤ◌, ◌<ℤ◌, ≤ℤ_refl, le_z_yes, clash_ℤ}
use Rattle.arith.specs.Bounds.{Within, Size}
use Rattle.arith.proofs.Quote.{ring!, quote}
use Rattle.arith.proofs.Parts.{linear, add_parts, sub_parts, neg_parts}
use Rattle.arith.proofs.Order.{true_le, false_le, ≤ℤ-antisymm, ≤ℤ-total, <ℤ-total, <ℤ→≤ℤ}
use Rattle.arith.proofs.Cert.{◌⊞◌, ◌⊠◌, ◌·◌, gap, gap<, le_by, lt_by}
use Rattle.arith.proofs.Quot.{quot-nonneg, quot-nonpos}
use Rattle.arith.proofs.Size.{size_within}
use Rattle.trig.specs.Trig.{ONE, square_of}
use Rattle.monotone.proofs.Monotone.{sine-rises_by}
use Rattle.cone.specs.Cone.{cone_angle_of, sine_at, cosine_at, not_left, offset_at}
use Rattle.cone.specs.Settled.{east_of, least_rise}
use Rattle.cone.specs.Laws.{SineRisesLeast, SettledHere, SettledBefore}
use Rattle.cone.proofs.ConeAngles.{cone_angle_size, cone_angle_further, cone_angle_rises}
use Rattle.cone.proofs.Directions.{sine_at-rises, sine_at-neg, cosine_at-neg, rises, toward}
use Rattle.cone.proofs.Halving.{is_last}
use Rattle.cone.proofs.Cuts.{only}

pub sine-rises_least : SineRisesLeast
unfolding least_rise
sine-rises_least n w d d' n_within w_most d-least more d'-most =
    let t = cone_angle_of n d in
    let t' = cone_angle_of n d' in
    let T = cone_angle_of n w in
    let a = quot_z (pos 18 *ℤ n) ONE in
    let N = a *ℤ (pos 2 *ℤ ONE -ℤ square_of T -ℤ pos 1) -ℤ pos 3 *ℤ T in
    let k = quot_z N (pos 2147483648) in
    let a-least = (quot-nonneg (2 ^ 30) (lit< tt) (pos 18 *ℤ n) (18 · n_within.low)).0 in
    let w_size : Size (pos 60000000) w = omega linear in
    let t'_most : t' ≤ℤ T = ⊎_elim
    (λ (l : d' <ℤ w). let r = cone_angle_rises n d' w n_within (omega linear) l in le_by (gap r ⊞ a-least) (ring! (t' ∷ T ∷ a ∷ []) (search quote depth 40) tt))
    (λ (l : w ≤ℤ d'). subst (λ e. t' ≤ℤ cone_angle_of n e) (≤ℤ-antisymm d'-most l) (≤ℤ_refl t'))
    (<ℤ-total d' w) in
    ⊎_elim
    (λ (l : pos 0 ≤ℤ N).
    let q = quot-nonneg (2 ^ 31) (lit< tt) N l in
    sine-rises_by T a k t t' (cone_angle_further n d d' n_within d-least more (omega linear)).0 a-least (cone_angle_rises n d d' n_within d-least more) t'_most
    (cone_angle_size n (pos 60000000) w (size_within n_within) w_size).high (le_by (gap q.1) (ring! (k ∷ a ∷ square_of T ∷ T ∷ []) (search quote depth 40) tt)))
    (λ (l : N ≤ℤ pos 0).
    let q = quot-nonpos (2 ^ 31) (lit< tt) N l in
    let m = sine_at-rises n n_within d d' d-least (<ℤ→≤ℤ more) (omega linear) in
    le_by (gap m ⊞ gap q.0) (ring! (k ∷ sine_at n d ∷ sine_at n d' ∷ []) (search quote depth 40) tt))
    (≤ℤ-total (pos 0) N)

module _ (n v w : ℤ) (n_within : Within (pos 0) ONE n) (v-least : pos 0 ≤ℤ v) (w_most : w ≤ℤ pos 60000000) where
  abbrev margin : ℤ
  margin = v *ℤ least_rise n w

  -- a point e or more east of d + 1 lies the margin and e or more east of d
  further_east : (x e d : ℤ) → pos 0 ≤ℤ e → e ≤ℤ pos 1 → neg_ℤ w ≤ℤ d → d <ℤ w → e ≤ℤ east_of n x v (d +ℤ pos 1) → (margin +ℤ e) ≤ℤ east_of n x v d
  further_east x e d e-least e-most low high h =
      let d' = d +ℤ pos 1 in
      let p = add_parts d (pos 1) in
      let q = neg_parts w in
      let d_size : Size (pos 60000000) d = record { low = omega (linear, q); high = omega linear } in
      let d'-size : Size (pos 60000000) d' = record { low = omega (linear, p, q); high = omega (linear, p) } in
      let side : (pos 0 ≤ℤ d) ⊎ (d' ≤ℤ pos 0) = ⊎_elim (λ (l : d <ℤ pos 0). inr (omega (linear, p))) (λ l. inl l) (<ℤ-total d (pos 0)) in
      let s = rises n n_within w (least_rise n w) w_most (λ c c' a l b. sine-rises_least n w c c' n_within w_most a l b) d d' low (omega (linear, p)) (omega (linear, p)) in
      let t = toward n n_within x v e v-least e-least e-most d d' d_size d'-size (omega (linear, p))
      (le_by (gap h) (ring! (x ∷ v ∷ e ∷ sine_at n d' ∷ cosine_at n d' ∷ []) (search quote depth 40) tt)) side in
      le_by (gap t ⊞ v-least ⊠ gap s) (ring! (x ∷ v ∷ e ∷ least_rise n w ∷ sine_at n d ∷ sine_at n d' ∷ cosine_at n d ∷ []) (search quote depth 40) tt)

  module _ (x : ℤ) where
    abbrev F : ℤ → ℤ
    F = east_of n x v

    holds-true : (d : ℤ) → pos 0 ≤ℤ F d → not_left n x v d ≡ true
    unfolding not_left
    holds-true d h = true_le {a = v *ℤ sine_at n d} {b = x *ℤ cosine_at n d} (le_by h (ring! (x ∷ v ∷ sine_at n d ∷ cosine_at n d ∷ []) (search quote depth 40) tt))

    holds-false : (d : ℤ) → F d <ℤ pos 0 → not_left n x v d ≡ false
    unfolding not_left
    holds-false d h = false_le {a = v *ℤ sine_at n d} {b = x *ℤ cosine_at n d} (lt_by (gap< h) (ring! (x ∷ v ∷ sine_at n d ∷ cosine_at n d ∷ []) (search quote depth 40) tt))

    -- an offset that the test holds at, and not at the next, is the halving's
    is_offset : (d : ℤ) → neg_ℤ w ≤ℤ d → d <ℤ w → pos 0 ≤ℤ F d → F (d +ℤ pos 1) <ℤ pos 0 → offset_at n x v w ≡ d
    is_offset d low high here next =
        let q = neg_parts w in
        let w_size : Size (pos 60000000) w = record { low = omega (linear, q); high = w_most } in
        let west-size : Size (pos 60000000) (neg_ℤ w) = record { low = omega (linear, q); high = omega (linear, q) } in
        only n x v n_within v-least (neg_ℤ w) w west-size w_size _ d (is_last n x v (neg_ℤ w) w (omega linear))
        (record { low = low; high = high; here = inr (holds-true d here); next = inr (holds-false (d +ℤ pos 1) next) })

pub settled_here : SettledHere
settled_here n x v w d n_within v-least w_most low high here near =
    let F = east_of n x v in
    is_offset n v w n_within v-least w_most x d (<ℤ→≤ℤ low) high here (⊎_elim
    (λ (l : F (d +ℤ pos 1) <ℤ pos 0). l)
    (λ (l : pos 0 ≤ℤ F (d +ℤ pos 1)).
    let f = further_east n v w n_within v-least w_most x (pos 0) d (≤ℤ_refl (pos 0)) (le_z_yes tt) (<ℤ→≤ℤ low) high l in
    absurd (clash_ℤ near (le_by (gap f) (ring! (F d ∷ v ∷ least_rise n w ∷ []) (search quote depth 40) tt))))
    (<ℤ-total (F (d +ℤ pos 1)) (pos 0)))

-- the mirror: a point west of d - 1 lies, mirrored, east of the mirror of d - 1, and so far east of that of d
pub settled_before : SettledBefore
settled_before n x v w d n_within v-least w_most low high west near =
    let F = east_of n x v in
    let c = d -ℤ pos 1 in
    let p = sub_parts d (pos 1) in
    let back : c +ℤ pos 1 ≡ d = ring! (d ∷ []) (search quote depth 40) tt in
    let there : neg_ℤ d +ℤ pos 1 ≡ neg_ℤ c = ring! (d ∷ []) (search quote depth 40) tt in
    let mirrored : (e : ℤ) → east_of n (neg_ℤ x) v (neg_ℤ e) ≡ neg_ℤ (F e) =
    λ e. rw (sine_at-neg n n_within e, cosine_at-neg n n_within e) (ring! (x ∷ v ∷ sine_at n e ∷ cosine_at n e ∷ []) (search quote depth 40) tt) in
    is_offset n v w n_within v-least w_most x c (omega (linear, p)) (omega (linear, p)) (⊎_elim
    (λ (l : F c <ℤ pos 0).
    let q = neg_parts d in
    let r = neg_parts w in
    let m = neg_parts (F c) in
    let f = further_east n v w n_within v-least w_most (neg_ℤ x) (pos 1) (neg_ℤ d) (le_z_yes tt) (le_z_yes tt) (omega (linear, q, r)) (omega (linear, q, r)) (rw (there, mirrored c) (omega (linear, m))) in
    let g = rw (mirrored d) at f in
    absurd (clash_ℤ (lt_by (gap g) (ring! (F d ∷ v ∷ least_rise n w ∷ []) (search quote depth 40) tt)) near))
    (λ (l : pos 0 ≤ℤ F c). l)
    (<ℤ-total (F c) (pos 0))) (rw back west)
