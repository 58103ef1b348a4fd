-- The power series is the value of a row without rounding: t^k / k! - t^(k+2) / (k+2)! + .. is t^k / k! times 1 - ζ (1 - ζ (..) / f₂) / f₁, with ζ = t² and f₁ = (k+1) (k+2).
-- Assumes nothing.
use mathlib.Core.Path.{◌≡◌}
use mathlib.Core.List.{List, [], ◌∷◌}
use Prim.Native.Nat.{ℕ, zero, suc, ◌*◌, ◌<◌}
use native.Mathlib.Nat.{mul-pos, mul-one}
use native.Mathlib.Omega.{arith}
use lib.IntN.{ℤ, pos, neg_ℤ, ◌-ℤ◌, ◌*ℤ◌}
use Rattle.arith.proofs.Laws.{*ℤ-idˡ, *ℤ-idʳ}
use Rattle.arith.proofs.Quote.{ring!, quote}
use Rattle.arith.proofs.Cert.{eq_by, ◌⊛◌}
use Rattle.trig.specs.Row.{row_num, row_den}
use Rattle.trig.specs.Exact.{Fraction, power, factorial, series, sine, cosine}

-- the powers k, k + 2, .. of m + 1 terms, and the factors between them
abbrev powers : (k m : ℕ) → List ℕ
powers k zero = k ∷ []
powers k (suc m) = k ∷ powers (suc (suc k)) m

abbrev factors : (k m : ℕ) → List ℕ
factors k zero = []
factors k (suc m) = suc k * suc (suc k) ∷ factors (suc (suc k)) m

-- the last term; and a term P / (W F) before the others, which are N / D as a series and p / q as a row
last_term : (P Q : ℤ) → (P *ℤ pos 1 *ℤ pos 1 -ℤ pos 0 *ℤ Q) *ℤ (Q *ℤ pos 1) ≡ P *ℤ pos 1 *ℤ (Q *ℤ pos 1)
last_term P Q = ring! (P ∷ Q ∷ []) (search quote depth 40) tt

one_term : (a b P W F j k N D p q : ℤ) → N *ℤ (b *ℤ (b *ℤ W) *ℤ (k *ℤ (j *ℤ F)) *ℤ q) ≡ a *ℤ (a *ℤ P) *ℤ p *ℤ D →
    (P *ℤ pos 1 *ℤ D -ℤ N *ℤ (W *ℤ F)) *ℤ (W *ℤ F *ℤ (b *ℤ b *ℤ (j *ℤ k) *ℤ q)) ≡ P *ℤ (b *ℤ b *ℤ (j *ℤ k) *ℤ q -ℤ a *ℤ a *ℤ p) *ℤ (W *ℤ F *ℤ D)
one_term a b P W F j k N D p q h =
    eq_by (neg_ℤ (W *ℤ F) ⊛ h) (ring! (a ∷ b ∷ P ∷ W ∷ F ∷ j ∷ k ∷ N ∷ D ∷ p ∷ q ∷ []) (search quote depth 40 fits 9000) tt)

factorial-positive : (k : ℕ) → 0 < factorial k
unfolding factorial
factorial-positive zero = omega arith
factorial-positive (suc k) = mul-pos {m = suc k} (omega arith) (factorial-positive k)

module _ (t : Fraction) where
  -- the row's value at ζ = t²
  abbrev pub num_of : (k m : ℕ) → ℤ
  num_of k m = row_num (t.num *ℤ t.num) (pos t.den *ℤ pos t.den) (pos 1) (pos 1) (factors k m)

  abbrev pub den_of : (k m : ℕ) → ℤ
  den_of k m = row_den (pos t.den *ℤ pos t.den) (pos 1) (factors k m)

  series-is_row : (k m : ℕ) →
      (series t (powers k m)).num *ℤ (pos ((power t k).den * factorial k) *ℤ den_of k m) ≡ (power t k).num *ℤ num_of k m *ℤ pos (series t (powers k m)).den
  unfolding series power factorial
  series-is_row k zero = last_term (power t k).num (pos ((power t k).den * factorial k))
  series-is_row k (suc m) =
      let s = series t (powers (suc (suc k)) m) in
      one_term t.num (pos t.den) (power t k).num (pos (power t k).den) (pos (factorial k)) (pos (suc k)) (pos (suc (suc k)))
      s.num (pos s.den) (num_of (suc (suc k)) m) (den_of (suc (suc k)) m) (series-is_row (suc (suc k)) m)

  pub sine-is_row : (sine t).num *ℤ (pos t.den *ℤ den_of 1 10) ≡ t.num *ℤ num_of 1 10 *ℤ pos (sine t).den
  unfolding sine power factorial
  sine-is_row = rw (mul-one (t.den * 1), mul-one t.den, *ℤ-idʳ t.num) at (series-is_row 1 10)

  pub cosine-is_row : (cosine t).num *ℤ den_of 0 11 ≡ num_of 0 11 *ℤ pos (cosine t).den
  unfolding cosine power factorial
  cosine-is_row = rw (*ℤ-idˡ (den_of 0 11), *ℤ-idˡ (num_of 0 11)) at (series-is_row 0 11)

  module _ (den_positive : 0 < t.den) where
    power-positive : (k : ℕ) → 0 < (power t k).den
    unfolding power
    power-positive zero = omega arith
    power-positive (suc k) = mul-pos den_positive (power-positive k)

    series-positive : (ks : List ℕ) → 0 < (series t ks).den
    unfolding series
    series-positive [] = omega arith
    series-positive (k ∷ ks) = mul-pos (mul-pos (power-positive k) (factorial-positive k)) (series-positive ks)

    pub sine-positive : 0 < (sine t).den
    unfolding sine
    sine-positive = series-positive (powers 1 10)

    pub cosine-positive : 0 < (cosine t).den
    unfolding cosine
    cosine-positive = series-positive (powers 0 11)
