-- The value of a row of factors falls from a square to a larger one, by at most about a twelfth of what the square rises. Assumes nothing.
use mathlib.Core.List.{List, [], ◌∷◌}
use mathlib.Core.Logic.{⊎_elim}
use Prim.Native.Nat.{ℕ, ◌+◌, ◌*◌, ◌^◌, ◌≤◌}
use native.Mathlib.Omega.{arith}
use lib.IntN.{ℤ, pos, ◌+ℤ◌, ◌-ℤ◌, ◌*ℤ◌}
use lib.Signed.{◌≤ℤ◌, ◌<ℤ◌, quot_z, le_z_yes, ≤ℤ_refl}
use Rattle.arith.proofs.Quote.{ring!, quote}
use Rattle.arith.proofs.Parts.{linear}
use Rattle.arith.proofs.Order.{≤ℤ-total}
use Rattle.arith.proofs.Cert.{◌⊞◌, ◌⊠◌, ◌·◌, num, gap, gap<, le_by, le_by*, lt-by*, *ℤ-cancelˡ-<}
use Rattle.arith.proofs.Quot.{quot-nonneg}
use Rattle.trig.specs.Trig.{ONE, series_of}

-- q is the quotient of a by b, both not negative
pub record Quotient (a b q : ℤ) : Type 0 where
  pub least : pos 0 ≤ℤ q
  pub low : (b *ℤ q) ≤ℤ a
  pub high : a <ℤ (b *ℤ q +ℤ b)

-- z up to z', both up to 1.2 ONE
pub record Squares (z z' : ℤ) : Type 0 where
  pub z_least : pos 0 ≤ℤ z
  pub order : z ≤ℤ z'
  pub z'_most : (pos 5 *ℤ z') ≤ℤ (pos 6 *ℤ ONE)

-- the values of a row at z and z', p and p': from 0.9 ONE to ONE, p' at most 1 above p, and p at most (z' - z + 14) / 12 above p'
pub record Falls (z z' p p' : ℤ) : Type 0 where
  pub p_most : p ≤ℤ ONE
  pub p'_most : p' ≤ℤ ONE
  pub p_least : (pos 9 *ℤ ONE) ≤ℤ (pos 10 *ℤ p)
  pub p'_least : (pos 9 *ℤ ONE) ≤ℤ (pos 10 *ℤ p')
  pub above : p' ≤ℤ (p +ℤ pos 1)
  pub below : (pos 12 *ℤ (p -ℤ p')) ≤ℤ (z' -ℤ z +ℤ pos 14)

module _ {z z' : ℤ} (s : Squares z z') where
  pub z_most : (pos 5 *ℤ z) ≤ℤ (pos 6 *ℤ ONE)
  z_most = le_by (5 · gap s.order ⊞ gap s.z'_most) (ring! (z ∷ z' ∷ []) (search quote depth 40) tt)

  pub z'_least : pos 0 ≤ℤ z'
  z'_least = le_by (gap s.order ⊞ s.z_least) (ring! (z ∷ z' ∷ []) (search quote depth 40) tt)

  -- f (q' - q - 1) ≤ z' - z + 1.2, for any factor f
  module _ {p p' : ℤ} (k : Falls z z' p p') (f q q' : ℤ) (h : Quotient (z *ℤ p) (ONE *ℤ f) q) (h' : Quotient (z' *ℤ p') (ONE *ℤ f) q') where
    pub goes_up : (f *ℤ (q' -ℤ q -ℤ pos 1)) ≤ℤ (z' -ℤ z +ℤ pos 2)
    goes_up = le_by* (5 * 2 ^ 30) tt
        (5 · gap h'.low ⊞ 5 · gap< h.high ⊞ 5 · (gap s.order ⊠ gap k.p'_most) ⊞ 5 · (s.z_least ⊠ gap k.above) ⊞ gap z_most ⊞ num (5 + 4 * 2 ^ 30))
        (ring! (z ∷ z' ∷ p ∷ p' ∷ q ∷ q' ∷ f ∷ []) (search quote depth 60 fits 20000) tt)

    module _ (f-least : pos 12 ≤ℤ f) where
      -- 1 - 1.2 / 12 is 0.9
      least_by : {y r c : ℤ} → pos 0 ≤ℤ y → (pos 5 *ℤ y) ≤ℤ (pos 6 *ℤ ONE) → r ≤ℤ ONE → Quotient (y *ℤ r) (ONE *ℤ f) c → (pos 9 *ℤ ONE) ≤ℤ (pos 10 *ℤ (ONE -ℤ c))
      least_by {y} {r} {c} y-least y-most r-most i = le_by* (6 * 2 ^ 30) tt
          ((5 * 2 ^ 30) · (gap f-least ⊠ i.least) ⊞ 5 · gap i.low ⊞ 5 · (y-least ⊠ gap r-most) ⊞ (2 ^ 30) · gap y-most)
          (ring! (y ∷ r ∷ c ∷ f ∷ []) (search quote depth 60 fits 20000) tt)

      twelve : (pos 12 *ℤ (q' -ℤ q -ℤ pos 1)) ≤ℤ (z' -ℤ z +ℤ pos 2)
      twelve = ⊎_elim
          (λ (l : pos 0 ≤ℤ (q' -ℤ q -ℤ pos 1)). le_by (gap f-least ⊠ l ⊞ gap goes_up) (ring! (z ∷ z' ∷ q ∷ q' ∷ f ∷ []) (search quote depth 40) tt))
          (λ (l : (q' -ℤ q -ℤ pos 1) ≤ℤ pos 0). le_by (12 · gap l ⊞ gap s.order ⊞ num 2) (ring! (z ∷ z' ∷ q ∷ q' ∷ []) (search quote depth 40) tt))
          (≤ℤ-total (pos 0) (q' -ℤ q -ℤ pos 1))

      -- f (q - q' - 1) < 1.4
      not_far : (ONE *ℤ f *ℤ q) <ℤ (ONE *ℤ f *ℤ (q' +ℤ pos 2))
      not_far = lt-by* 60 tt
          (60 · gap h.low ⊞ 60 · gap< h'.high ⊞ (60 * 2 ^ 30) · gap f-least ⊞ 5 · (s.z_least ⊠ gap k.below)
          ⊞ gap s.order ⊠ (6 · gap k.p'_least ⊞ gap z_most ⊞ num (48 * 2 ^ 30)) ⊞ 14 · gap z_most ⊞ num (59 + 636 * 2 ^ 30))
          (ring! (z ∷ z' ∷ p ∷ p' ∷ q ∷ q' ∷ f ∷ []) (search quote depth 60 fits 20000) tt)

      next-falls : Falls z z' (ONE -ℤ q) (ONE -ℤ q')
      next-falls =
          let b_positive : pos 0 ≤ℤ (ONE *ℤ f) = le_by ((2 ^ 30) · gap f-least ⊞ num (12 * 2 ^ 30)) (ring! (f ∷ []) (search quote depth 40) tt) in
          let less : q <ℤ (q' +ℤ pos 2) = *ℤ-cancelˡ-< (ONE *ℤ f) b_positive not_far in
          let ρ = z ∷ z' ∷ q ∷ q' ∷ [] in
          record {
            p_most = le_by h.least (ring! ρ (search quote depth 40) tt);
            p'_most = le_by h'.least (ring! ρ (search quote depth 40) tt);
            p_least = least_by s.z_least z_most k.p_most h;
            p'_least = least_by z'_least s.z'_most k.p'_most h';
            above = le_by (gap< less) (ring! ρ (search quote depth 40) tt);
            below = le_by (gap twelve) (ring! ρ (search quote depth 40) tt);
          }

-- ---- rows of factors from 12 on

abbrev TwelveUp : List ℕ → Type 0
TwelveUp [] = Unit {0}
TwelveUp (f ∷ fs) = (12 ≤ f) × TwelveUp fs

pub quotient_of : (f : ℕ) → 1 ≤ f → (y p : ℤ) → pos 0 ≤ℤ y → (pos 9 *ℤ ONE) ≤ℤ (pos 10 *ℤ p) → Quotient (y *ℤ p) (ONE *ℤ pos f) (quot_z (y *ℤ p) (ONE *ℤ pos f))
quotient_of f f-least y p y-least p_least =
    let p-nonneg : pos 0 ≤ℤ p = le_by* 10 tt (gap p_least ⊞ num (9 * 2 ^ 30)) (ring! (p ∷ []) (search quote depth 40) tt) in
    let b = quot-nonneg (2 ^ 30 * f) (omega arith) (y *ℤ p) (y-least ⊠ p-nonneg) in
    record { least = b.0; low = b.1; high = b.2 }

module _ {z z' : ℤ} (s : Squares z z') where
  pub row_falls : (fs : List ℕ) → TwelveUp fs → Falls z z' (series_of fs z) (series_of fs z')
  unfolding series_of
  row_falls [] h = record {
    p_most = ≤ℤ_refl ONE;
    p'_most = ≤ℤ_refl ONE;
    p_least = le_z_yes tt;
    p'_least = le_z_yes tt;
    above = le_z_yes tt;
    below = le_by (gap s.order ⊞ num 14) (ring! (z ∷ z' ∷ []) (search quote depth 40) tt);
  }
  row_falls (f ∷ fs) h =
      let k = row_falls fs h.1 in
      let f-least : 1 ≤ f = omega (arith, h.0) in
      next-falls s k (pos f) _ _ (quotient_of f f-least z (series_of fs z) s.z_least k.p_least) (quotient_of f f-least z' (series_of fs z') (z'_least s) k.p'_least) (omega (linear, h.0))
