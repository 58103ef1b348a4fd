-- Sine and cosine at offsets on both sides of the central meridian, and what the test at one offset says of an offset west of it. Assumes nothing.
use mathlib.Core.Path.{◌≡◌, ap, subst}
use mathlib.Core.List.{[], ◌∷◌}
use mathlib.Core.Logic.{◌⊎◌, inl, inr, ⊎_elim}
use lib.IntN.{ℤ, pos, neg_ℤ, ◌+ℤ◌, ◌*ℤ◌, *ℤ-zero}
use lib.Signed.{quot_z, ◌≤ℤ◌, ◌<ℤ◌, ≤ℤ_refl}
use Rattle.arith.specs.Bounds.{Within, Size}
use Rattle.arith.proofs.Quote.{ring!, quote}
use Rattle.arith.proofs.Parts.{linear, add_parts, neg_parts, mul_parts}
use Rattle.arith.proofs.Order.{≤ℤ-antisymm, <ℤ-total, <ℤ→≤ℤ}
use Rattle.arith.proofs.Cert.{◌⊞◌, ◌⊠◌, gap, gap<, le_by, lt_by}
use Rattle.arith.proofs.Size.{size_within}
use Rattle.trig.specs.Trig.{ONE, angle_of, square_of, series_of, sine_of}
use Rattle.trig.proofs.Mirror.{sine-odd, cosine-even}
use Rattle.trig.proofs.Spread.{cosine-least}
use Rattle.monotone.proofs.Monotone.{sine-rises, cosine-falls}
use Rattle.cone.specs.Cone.{cone_angle_of, sine_at, cosine_at}
use Rattle.cone.proofs.ConeAngles.{cone_angle_odd, cone_angle_size, cone_angle_further}

module _ (n : ℤ) (n_within : Within (pos 0) ONE n) where
  pub sine_at-neg : (d : ℤ) → sine_at n (neg_ℤ d) ≡ neg_ℤ (sine_at n d)
  sine_at-neg d = rw (cone_angle_odd n d, sine-odd (cone_angle_of n d))

  pub cosine_at-neg : (d : ℤ) → cosine_at n (neg_ℤ d) ≡ cosine_at n d
  cosine_at-neg d = rw (cone_angle_odd n d, cosine-even (cone_angle_of n d))

  sine_at-zero : sine_at n (pos 0) ≡ pos 0
  unfolding cone_angle_of angle_of sine_of square_of series_of
  sine_at-zero = ap (λ a. sine_of (quot_z a ONE)) (*ℤ-zero n)

  -- ---- from 0 on

  module _ (d d' : ℤ) (d-least : pos 0 ≤ℤ d) (order : d ≤ℤ d') (d'-most : d' ≤ℤ pos 60000000) where
    pub sine_at-rises : sine_at n d ≤ℤ sine_at n d'
    sine_at-rises = ⊎_elim
        (λ (l : d <ℤ d'). let f = cone_angle_further n d d' n_within d-least l d'-most in sine-rises _ _ f.0 f.1)
        (λ (l : d' ≤ℤ d). subst (λ e. sine_at n d ≤ℤ sine_at n e) (≤ℤ-antisymm order l) (≤ℤ_refl (sine_at n d)))
        (<ℤ-total d d')

    cosine_at-falls : cosine_at n d' ≤ℤ cosine_at n d
    cosine_at-falls = ⊎_elim
        (λ (l : d <ℤ d'). let f = cone_angle_further n d d' n_within d-least l d'-most in cosine-falls _ _ f.0 f.1)
        (λ (l : d' ≤ℤ d). subst (λ e. cosine_at n e ≤ℤ cosine_at n d) (≤ℤ-antisymm order l) (≤ℤ_refl (cosine_at n d)))
        (<ℤ-total d d')

  -- ---- on both sides

  cosine_at-positive : (d : ℤ) → Size (pos 60000000) d → pos 0 <ℤ cosine_at n d
  cosine_at-positive d h = let c = cosine-least (cone_angle_of n d) (cone_angle_size n (pos 60000000) d (size_within n_within) h) in omega (linear, c, mul_parts 5 (cosine_at n d))

  sine_at-nonneg : (d : ℤ) → pos 0 ≤ℤ d → d ≤ℤ pos 60000000 → pos 0 ≤ℤ sine_at n d
  sine_at-nonneg d h k = subst (λ z. z ≤ℤ sine_at n d) sine_at-zero (sine_at-rises (pos 0) d (≤ℤ_refl (pos 0)) h k)

  sine_at-nonpos : (d : ℤ) → d ≤ℤ pos 0 → neg_ℤ (pos 60000000) ≤ℤ d → sine_at n d ≤ℤ pos 0
  sine_at-nonpos d h k =
      let s = subst (λ z. pos 0 ≤ℤ z) (sine_at-neg d) (sine_at-nonneg (neg_ℤ d) (omega (linear, neg_parts d)) (omega (linear, neg_parts d, k))) in
      omega (linear, s, neg_parts (sine_at n d))

  -- by what the sine rises from 0 on, it rises on both sides
  pub rises : (W k : ℤ) → W ≤ℤ pos 60000000 → ((d d' : ℤ) → pos 0 ≤ℤ d → d <ℤ d' → d' ≤ℤ W → (sine_at n d +ℤ k) ≤ℤ sine_at n d') →
      (d d' : ℤ) → neg_ℤ W ≤ℤ d → d <ℤ d' → d' ≤ℤ W → (sine_at n d +ℤ k) ≤ℤ sine_at n d'
  rises W k W-most rise d d' low more high =
      let p = neg_parts d in
      let q = neg_parts d' in
      let r = neg_parts W in
      let ρ = sine_at n d ∷ sine_at n d' ∷ k ∷ [] in
      ⊎_elim
      (λ (l : d <ℤ pos 0). ⊎_elim
      (λ (l' : pos 0 <ℤ d').
      let up = subst (λ z. (z +ℤ k) ≤ℤ sine_at n d') sine_at-zero (rise (pos 0) d' (≤ℤ_refl (pos 0)) l' high) in
      le_by (gap up ⊞ gap (sine_at-nonpos d (<ℤ→≤ℤ l) (omega (linear, r)))) (ring! ρ (search quote depth 40) tt))
      (λ (l' : d' ≤ℤ pos 0).
      let up = rw (sine_at-neg d, sine_at-neg d') at (rise (neg_ℤ d') (neg_ℤ d) (omega (linear, q)) (omega (linear, p, q)) (omega (linear, p, r))) in
      le_by (gap up) (ring! ρ (search quote depth 40) tt))
      (<ℤ-total (pos 0) d'))
      (λ (l : pos 0 ≤ℤ d). rise d d' l more high)
      (<ℤ-total d (pos 0))

  pub sine_at-up : (d d' : ℤ) → Size (pos 60000000) d → Size (pos 60000000) d' → d <ℤ d' → (sine_at n d +ℤ pos 0) ≤ℤ sine_at n d'
  sine_at-up d d' d_size d'-size more =
      rises (pos 60000000) (pos 0) (≤ℤ_refl (pos 60000000))
      (λ c c' h l k. le_by (gap (sine_at-rises c c' h (<ℤ→≤ℤ l) k)) (ring! (sine_at n c ∷ sine_at n c' ∷ []) (search quote depth 40) tt)) d d' d_size.low more d'-size.high

  -- ---- a map point, e ONEths of a unit or more east of d'

  module _ (x v e : ℤ) (v-least : pos 0 ≤ℤ v) (e-least : pos 0 ≤ℤ e) (e-most : e ≤ℤ pos 1) (d d' : ℤ) (d_size : Size (pos 60000000) d) (d'-size : Size (pos 60000000) d') (order : d ≤ℤ d')
      (east : (v *ℤ sine_at n d' +ℤ e) ≤ℤ (x *ℤ cosine_at n d')) where
    -- lies on the meridian's east side or on it, if d' does
    pub x_least : pos 0 ≤ℤ d' → pos 0 ≤ℤ x
    x_least l' = ⊎_elim
        (λ (l : x <ℤ pos 0).
        let C = gap< (cosine_at-positive d' d'-size) in
        let neg : (x *ℤ cosine_at n d') <ℤ pos 0 = lt_by (gap< l ⊠ C ⊞ gap< l ⊞ C) (ring! (x ∷ cosine_at n d' ∷ []) (search quote depth 40) tt) in
        let p = v-least ⊠ sine_at-nonneg d' l' d'-size.high in
        absurd (omega (linear, east, neg, p, add_parts (v *ℤ sine_at n d') e)))
        (λ l. l)
        (<ℤ-total x (pos 0))

    -- and by the cosine of a d on the same side as d', further west, it does so too
    pub toward : (pos 0 ≤ℤ d) ⊎ (d' ≤ℤ pos 0) → (v *ℤ sine_at n d' +ℤ e) ≤ℤ (x *ℤ cosine_at n d)
    toward side =
        let ρ = x ∷ v ∷ e ∷ sine_at n d' ∷ cosine_at n d ∷ cosine_at n d' ∷ [] in
        ⊎_elim
        (λ (l : pos 0 ≤ℤ d). le_by (gap east ⊞ x_least (omega linear) ⊠ gap (cosine_at-falls d d' l order d'-size.high)) (ring! ρ (search quote depth 40) tt))
        (λ (l : d' ≤ℤ pos 0). ⊎_elim
        (λ (x0 : pos 0 <ℤ x).
        let S = sine_at-nonpos d' l d'-size.low in
        let C = gap< (cosine_at-positive d d_size) in
        le_by (gap< x0 ⊠ C ⊞ gap< x0 ⊞ C ⊞ v-least ⊠ gap S ⊞ gap e-most) (ring! ρ (search quote depth 40) tt))
        (λ (x0 : x ≤ℤ pos 0).
        let p = neg_parts d in
        let q = neg_parts d' in
        let C = rw (cosine_at-neg d, cosine_at-neg d') at (cosine_at-falls (neg_ℤ d') (neg_ℤ d) (omega (linear, q)) (omega (linear, p, q)) (omega (linear, p, d_size.low))) in
        le_by (gap east ⊞ gap x0 ⊠ gap C) (ring! ρ (search quote depth 40) tt))
        (<ℤ-total (pos 0) x))
        side

    -- so it does not lie left of d
    pub west_of_it : d <ℤ d' → (v *ℤ sine_at n d) ≤ℤ (x *ℤ cosine_at n d)
    west_of_it more =
        let ρ = x ∷ v ∷ e ∷ sine_at n d ∷ sine_at n d' ∷ cosine_at n d ∷ [] in
        let same-side : (pos 0 ≤ℤ d) ⊎ (d' ≤ℤ pos 0) → (v *ℤ sine_at n d) ≤ℤ (x *ℤ cosine_at n d) =
        λ side. le_by (gap (toward side) ⊞ e-least ⊞ v-least ⊠ gap (sine_at-up d d' d_size d'-size more)) (ring! ρ (search quote depth 40) tt) in
        ⊎_elim
        (λ (l : d <ℤ pos 0). ⊎_elim
        (λ (l' : pos 0 <ℤ d').
        le_by (x_least (<ℤ→≤ℤ l') ⊠ <ℤ→≤ℤ (cosine_at-positive d d_size) ⊞ v-least ⊠ gap (sine_at-nonpos d (<ℤ→≤ℤ l) d_size.low)) (ring! ρ (search quote depth 40) tt))
        (λ l'. same-side (inr l'))
        (<ℤ-total (pos 0) d'))
        (λ l. same-side (inl l))
        (<ℤ-total d (pos 0))
