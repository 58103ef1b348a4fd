-- A point that does not lie left of an offset does not lie left of a smaller one: so the halving may be cut at any offset between lo and hi. Assumes nothing.
use mathlib.Core.Path.{◌≡◌, sym, subst, ◌∙◌}
use mathlib.Core.Bool.{true, false, true≢false}
use mathlib.Core.List.{[], ◌∷◌}
use mathlib.Core.Logic.{⊎_elim}
use lib.IntN.{ℤ, pos, ◌+ℤ◌, ◌*ℤ◌}
use lib.Signed.{◌≤ℤ◌, ◌<ℤ◌, ≤ℤ_refl, le_z_yes}
use Rattle.arith.specs.Bounds.{Within, Size}
use Rattle.arith.proofs.Quote.{ring!, quote}
use Rattle.arith.proofs.Parts.{linear, add_parts}
use Rattle.arith.proofs.Order.{le_true, true_le, ≤ℤ-antisymm, <ℤ-total, <ℤ→≤ℤ}
use Rattle.arith.proofs.Cert.{gap, le_by}
use Rattle.arith.proofs.Choose.{choose}
use Rattle.trig.specs.Trig.{ONE}
use Rattle.cone.specs.Cone.{sine_at, cosine_at, not_left, last_lo}
use Rattle.cone.specs.Laws.{NotLeftFalls, LastLoCut}
use Rattle.cone.proofs.Directions.{west_of_it}
use Rattle.cone.proofs.Halving.{IsLast, from_mid, to_mid, is_last}

pub not_left-falls : NotLeftFalls
unfolding not_left
not_left-falls n x v d d' n_within v-least d_size d'-size order t =
    let h = le_true {a = v *ℤ sine_at n d'} {b = x *ℤ cosine_at n d'} t in
    ⊎_elim
    (λ (l : d <ℤ d').
    true_le (west_of_it n n_within x v (pos 0) v-least (≤ℤ_refl (pos 0)) (le_z_yes tt) d d' d_size d'-size order
    (le_by (gap h) (ring! (x ∷ v ∷ sine_at n d' ∷ cosine_at n d' ∷ []) (search quote depth 40) tt)) l))
    (λ (l : d' ≤ℤ d). subst (λ c. not_left n x v c ≡ true) (sym (≤ℤ-antisymm order l)) t)
    (<ℤ-total d d')

-- ---- there is one last lo only

module _ (n x v : ℤ) (n_within : Within (pos 0) ONE n) (v-least : pos 0 ≤ℤ v) (lo hi : ℤ) (lo_size : Size (pos 60000000) lo) (hi_size : Size (pos 60000000) hi) where
  no_less : (d e : ℤ) → IsLast n x v lo hi d → IsLast n x v lo hi e → d <ℤ e → ⊥
  no_less d e c c' l =
      let b = c.low in
      let b' = c'.high in
      let p = add_parts d (pos 1) in
      ⊎_elim
      (λ (s : e ≡ lo). absurd (omega linear))
      (λ (s : not_left n x v e ≡ true). ⊎_elim
      (λ (r : d +ℤ pos 1 ≡ hi). absurd (omega (linear, p)))
      (λ (r : not_left n x v (d +ℤ pos 1) ≡ false).
      let d_size : Size (pos 60000000) (d +ℤ pos 1) = record { low = omega (linear, p, lo_size.low); high = omega (linear, p, hi_size.high) } in
      let e-size : Size (pos 60000000) e = record { low = omega (linear, lo_size.low); high = omega (linear, hi_size.high) } in
      true≢false (sym (not_left-falls n x v (d +ℤ pos 1) e n_within v-least d_size e-size (omega (linear, p)) s) ∙ r))
      c.next)
      c'.here

  pub only : (d e : ℤ) → IsLast n x v lo hi d → IsLast n x v lo hi e → d ≡ e
  only d e c c' = ⊎_elim (λ l. absurd (no_less d e c c' l)) (λ g. ⊎_elim (λ l. absurd (no_less e d c' c l)) (λ h. ≤ℤ-antisymm h g) (<ℤ-total e d)) (<ℤ-total d e)

pub last_lo-cut : LastLoCut
last_lo-cut n x v lo mid hi n_within v-least lo_size hi_size l h =
    let o : lo <ℤ hi = omega linear in
    choose (λ z. last_lo n x v lo hi ≡ z) (not_left n x v mid) _ _
    (λ e. only n x v n_within v-least lo hi lo_size hi_size _ _ (is_last n x v lo hi o) (from_mid n x v lo mid hi _ (<ℤ→≤ℤ l) e (is_last n x v mid hi h)))
    (λ e. only n x v n_within v-least lo hi lo_size hi_size _ _ (is_last n x v lo hi o) (to_mid n x v lo mid hi _ (<ℤ→≤ℤ h) e (is_last n x v lo mid l)))
