-- From an angle to a larger one the computed sine does not fall and the computed cosine does not rise: for angles 4 or more apart, and for small angles any distance apart.
-- (For angles 1 apart it is not so.) Assumes nothing.
use mathlib.Core.Path.{◌≡◌, subst}
use mathlib.Core.List.{List, [], ◌∷◌}
use mathlib.Core.Logic.{⊎_elim}
use Prim.Native.Nat.{ℕ, ◌-◌, ◌*◌, ◌^◌}
use native.Mathlib.Omega.{arith}
use lib.Dec.{lit<}
use lib.IntN.{ℤ, pos, ◌+ℤ◌, ◌-ℤ◌, ◌*ℤ◌}
use lib.Signed.{◌≤ℤ◌, ◌<ℤ◌, quot_z, le_z_yes, lt_z_yes, ≤ℤ_refl}
use Rattle.arith.proofs.Quote.{ring!, quote}
use Rattle.arith.proofs.Parts.{linear}
use Rattle.arith.proofs.Order.{≤ℤ-antisymm, <ℤ-total}
use Rattle.arith.proofs.Cert.{◌⊞◌, ◌⊠◌, ◌·◌, sq, num, gap, gap<, le_by, le_by*, *ℤ-cancelˡ-≤, 0<*}
use Rattle.arith.proofs.Quot.{quot-nonneg, quot-mono, ≤-quot}
use Rattle.trig.specs.Trig.{ONE, angle_of, square_of, series_of, sine_row, cosine_row, sine_of, cosine_of}
use Rattle.monotone.specs.Laws.{Further, SineRises, CosineFalls, StepFalls, SineRisesBy}
use Rattle.monotone.proofs.Rows.{Quotient, Squares, Falls, z_most, z'_least, goes_up, quotient_of, row_falls}

-- ---- two angles up to M

record Up (M t t' : ℤ) : Type 0 where
  t_least : pos 0 ≤ℤ t
  order : t ≤ℤ t'
  t'_most : t' ≤ℤ M
  M-most : (pos 5 *ℤ (M *ℤ M)) ≤ℤ (pos 6 *ℤ (ONE *ℤ ONE))

square : (y : ℤ) → Quotient (y *ℤ y) ONE (square_of y)
unfolding square_of
square y = let b = quot-nonneg (2 ^ 30) (lit< tt) (y *ℤ y) (sq y) in record { least = b.0; low = b.1; high = b.2 }

module _ {M t t' : ℤ} (u : Up M t t') where
  t_most : t ≤ℤ M
  t_most = le_by (gap u.order ⊞ gap u.t'_most) (ring! (M ∷ t ∷ t' ∷ []) (search quote depth 40) tt)

  t'_least : pos 0 ≤ℤ t'
  t'_least = le_by (gap u.order ⊞ u.t_least) (ring! (t ∷ t' ∷ []) (search quote depth 40) tt)

  M-nonneg : pos 0 ≤ℤ M
  M-nonneg = le_by (gap t_most ⊞ u.t_least) (ring! (M ∷ t ∷ []) (search quote depth 40) tt)

  squares : Squares (square_of t) (square_of t')
  unfolding square_of
  squares = record {
    z_least = (square t).least;
    order = quot-mono (2 ^ 30) (lit< tt) {a = t *ℤ t} {c = t' *ℤ t'} (le_by (gap u.order ⊠ (t'_least ⊞ u.t_least)) (ring! (t ∷ t' ∷ []) (search quote depth 40) tt));
    z'_most = le_by* (2 ^ 30) tt (5 · gap (square t').low ⊞ 5 · (gap u.t'_most ⊠ (M-nonneg ⊞ t'_least)) ⊞ gap u.M-most)
        (ring! (M ∷ t' ∷ quot_z (t' *ℤ t') ONE ∷ []) (search quote depth 60 fits 9000) tt);
  }

  -- 6 - τ'² - τ (τ + τ'), which is what the sine's product rises by for each step of the angle, in sixths
  abbrev slope : ℤ
  slope = pos 6 *ℤ (ONE *ℤ ONE) -ℤ t' *ℤ t' -ℤ t *ℤ (t +ℤ t')

  slope_above : (pos 6 *ℤ (ONE *ℤ ONE) -ℤ pos 3 *ℤ (M *ℤ M)) ≤ℤ slope
  slope_above = le_by (gap u.t'_most ⊠ (M-nonneg ⊞ t'_least) ⊞ gap t_most ⊠ (M-nonneg ⊞ u.t_least) ⊞ M-nonneg ⊠ gap t_most ⊞ u.t_least ⊠ gap u.t'_most)
      (ring! (M ∷ t ∷ t' ∷ []) (search quote depth 60 fits 9000) tt)

  slope_least : pos 0 ≤ℤ slope
  slope_least = le_by (gap slope_above ⊞ gap u.M-most ⊞ 2 · sq M) (ring! (M ∷ t ∷ t' ∷ []) (search quote depth 60 fits 9000) tt)

  -- the sine, with z, z' the squares, p, p' the row from its second factor on, and c, c' the quotients by the first
  module _ (z z' p p' c c' : ℤ) (s : Squares z z') (i : Quotient (t *ℤ t) ONE z) (i' : Quotient (t' *ℤ t') ONE z') (f : Falls z z' p p')
      (h : Quotient (z *ℤ p) (ONE *ℤ pos 6) c) (h' : Quotient (z' *ℤ p') (ONE *ℤ pos 6) c') where
    six : (pos 6 *ℤ c') ≤ℤ z'
    six = le_by* (2 ^ 30) tt (gap h'.low ⊞ z'_least s ⊠ gap f.p'_most) (ring! (z' ∷ p' ∷ c' ∷ []) (search quote depth 40) tt)

    product_gap : ((t' -ℤ t) *ℤ slope) ≤ℤ (pos 6 *ℤ ONE *ℤ (t' *ℤ (ONE -ℤ c') -ℤ t *ℤ (ONE -ℤ c)) +ℤ pos 9 *ℤ (t *ℤ ONE))
    product_gap = le_by
        ((2 ^ 30) · (gap u.order ⊠ gap six) ⊞ gap u.order ⊠ gap i'.low ⊞ (2 ^ 30) · (u.t_least ⊠ gap (goes_up s f (pos 6) c c' h h'))
        ⊞ u.t_least ⊠ (gap< i.high ⊞ gap i'.low) ⊞ u.t_least)
        (ring! (t ∷ t' ∷ z ∷ z' ∷ c ∷ c' ∷ []) (search quote depth 60 fits 20000) tt)

    product_nonneg : pos 0 ≤ℤ (t *ℤ (ONE -ℤ c))
    product_nonneg =
        let six-z : (pos 6 *ℤ c) ≤ℤ z = le_by* (2 ^ 30) tt (gap h.low ⊞ s.z_least ⊠ gap f.p_most) (ring! (z ∷ p ∷ c ∷ []) (search quote depth 40) tt) in
        let least : pos 0 ≤ℤ (ONE -ℤ c) = le_by* 30 tt (5 · gap six-z ⊞ gap (z_most s) ⊞ num (24 * 2 ^ 30)) (ring! (z ∷ c ∷ []) (search quote depth 40) tt) in
        u.t_least ⊠ least

    -- by k at least, for angles a or more apart
    product_rises_by : (a k : ℤ) → pos 0 ≤ℤ a → (t +ℤ a) ≤ℤ t' → (pos 2 *ℤ k *ℤ ONE) ≤ℤ (a *ℤ (pos 2 *ℤ ONE -ℤ square_of M -ℤ pos 1) -ℤ pos 3 *ℤ M) →
        (t *ℤ (ONE -ℤ c) +ℤ ONE *ℤ k) ≤ℤ (t' *ℤ (ONE -ℤ c'))
    product_rises_by a k a-least apart room = le_by* (6 * 2 ^ 30) tt
        (gap product_gap ⊞ gap apart ⊠ slope_least ⊞ a-least ⊠ gap slope_above ⊞ (9 * 2 ^ 30) · gap t_most ⊞ (3 * 2 ^ 30) · gap room ⊞ 3 · (a-least ⊠ gap< (square M).high) ⊞ 3 · a-least)
        (ring! (M ∷ square_of M ∷ t ∷ t' ∷ c ∷ c' ∷ a ∷ k ∷ []) (search quote depth 60 fits 30000) tt)

  sine-rises_by_least : (a k : ℤ) → pos 0 ≤ℤ a → (t +ℤ a) ≤ℤ t' → (pos 2 *ℤ k *ℤ ONE) ≤ℤ (a *ℤ (pos 2 *ℤ ONE -ℤ square_of M -ℤ pos 1) -ℤ pos 3 *ℤ M) → (sine_of t +ℤ k) ≤ℤ sine_of t'
  unfolding sine_of series_of
  sine-rises_by_least a k a-least apart room =
      let tail : List ℕ = 20 ∷ 42 ∷ 72 ∷ 110 ∷ 156 ∷ [] in
      let f = row_falls squares tail (omega arith) in
      let h = quotient_of 6 (omega arith) (square_of t) (series_of tail (square_of t)) squares.z_least f.p_least in
      let h' = quotient_of 6 (omega arith) (square_of t') (series_of tail (square_of t')) (z'_least squares) f.p'_least in
      let by = product_rises_by _ _ _ _ _ _ squares (square t) (square t') f h h' a k a-least apart room in
      let P = series_of sine_row (square_of t) in
      let P' = series_of sine_row (square_of t') in
      let S = quot_z (t *ℤ P) ONE in
      let q = quot-nonneg (2 ^ 30) (lit< tt) (t *ℤ P) (product_nonneg _ _ _ _ _ _ squares (square t) (square t') f h h') in
      ≤-quot (2 ^ 30) (lit< tt) {a = t' *ℤ P'} {m = S +ℤ k} (le_by (gap q.1 ⊞ gap by) (ring! (S ∷ k ∷ t ∷ P ∷ t' ∷ P' ∷ []) (search quote depth 40) tt))

-- ---- two angles, k or more apart

record Apart (M k t t' : ℤ) : Type 0 where
  t_least : pos 0 ≤ℤ t
  apart : (t +ℤ k) ≤ℤ t'
  t'_most : t' ≤ℤ M
  k_least : pos 1 ≤ℤ k
  M-most : (pos 5 *ℤ (M *ℤ M)) ≤ℤ (pos 6 *ℤ (ONE *ℤ ONE))
  sine_room : pos 0 ≤ℤ (k *ℤ (pos 2 *ℤ ONE -ℤ square_of M -ℤ pos 1) -ℤ pos 3 *ℤ M)
  cosine_room : (pos 70 *ℤ M) ≤ℤ (pos 48 *ℤ (k *ℤ ONE))

module _ {M k t t' : ℤ} (a : Apart M k t t') where
  k_nonneg : pos 0 ≤ℤ k
  k_nonneg = let h = a.k_least in omega linear

  up : Up M t t'
  up = record { t_least = a.t_least; order = le_by (gap a.apart ⊞ k_nonneg) (ring! (k ∷ t ∷ t' ∷ []) (search quote depth 40) tt); t'_most = a.t'_most; M-most = a.M-most }

  sine-by : sine_of t ≤ℤ sine_of t'
  sine-by = le_by (gap (sine-rises_by_least up k (pos 0) k_nonneg a.apart a.sine_room)) (ring! (sine_of t ∷ sine_of t' ∷ []) (search quote depth 40) tt)

  -- the cosine: where the squares are equal it is the same, else z is small beside z' - z
  module _ (z z' : ℤ) (s : Squares z z') (i : Quotient (t *ℤ t) ONE z) (i' : Quotient (t' *ℤ t') ONE z') (more : z <ℤ z') where
    t_small : (k *ℤ t) ≤ℤ (ONE *ℤ (z' -ℤ z))
    t_small = le_by* 2 tt
        ((2 ^ 30) · gap< more ⊞ gap< i'.high ⊞ gap i.low ⊞ gap a.apart ⊠ (a.t_least ⊞ t'_least up) ⊞ k_nonneg ⊠ gap up.order ⊞ num 1)
        (ring! (k ∷ t ∷ t' ∷ z ∷ z' ∷ []) (search quote depth 60 fits 9000) tt)

    z_small : (pos 70 *ℤ z) ≤ℤ (pos 48 *ℤ ONE *ℤ (z' -ℤ z))
    z_small =
        let k-positive : pos 0 <ℤ k = omega (linear, a.k_least) in
        *ℤ-cancelˡ-≤ (k *ℤ ONE) (0<* k-positive (lt_z_yes tt)) (le_by
        (70 · (k_nonneg ⊠ gap i.low) ⊞ 70 · (k_nonneg ⊠ (a.t_least ⊠ gap (t_most up))) ⊞ 70 · (M-nonneg up ⊠ gap t_small) ⊞ (2 ^ 30) · (gap s.order ⊠ gap a.cosine_room))
        (ring! (M ∷ k ∷ t ∷ z ∷ z' ∷ []) (search quote depth 60 fits 9000) tt))

    product_falls : {p p' : ℤ} → Falls z z' p p' → (z *ℤ p) ≤ℤ (z' *ℤ p')
    product_falls {p} {p'} f = le_by* 60 tt
        (5 · (s.z_least ⊠ gap f.below) ⊞ gap s.order ⊠ (6 · gap f.p'_least ⊞ gap (z_most s)) ⊞ gap z_small)
        (ring! (z ∷ z' ∷ p ∷ p' ∷ []) (search quote depth 60 fits 9000) tt)

  cosine-by : cosine_of t' ≤ℤ cosine_of t
  unfolding cosine_of series_of
  cosine-by =
      let z = square_of t in
      let z' = square_of t' in
      let tail : List ℕ = 12 ∷ 30 ∷ 56 ∷ 90 ∷ 132 ∷ [] in
      ⊎_elim
      (λ (more : z <ℤ z').
      let q = quot-mono (2 ^ 31) (lit< tt) (product_falls z z' (squares up) (square t) (square t') more (row_falls (squares up) tail (omega arith))) in
      le_by (gap q) (ring! (quot_z (z *ℤ series_of tail z) (pos (2 ^ 31)) ∷ quot_z (z' *ℤ series_of tail z') (pos (2 ^ 31)) ∷ []) (search quote depth 40) tt))
      (λ (no : z' ≤ℤ z). let same : z ≡ z' = ≤ℤ-antisymm (squares up).order no in subst (λ y. series_of cosine_row y ≤ℤ series_of cosine_row z) same (≤ℤ_refl (series_of cosine_row z)))
      (<ℤ-total z z')

-- ---- the laws

module _ (P : ℤ → ℤ → Type 0) (same : (t : ℤ) → P t t) (by : (M k t t' : ℤ) → Apart M k t t' → P t t') (t t' : ℤ) (t_least : pos 0 ≤ℤ t) where
  further : Further t t' → P t t'
  unfolding angle_of square_of
  further = ⊎_elim
      (λ h. by (pos 1124419808) (pos 4) t t' (record { t_least = t_least; apart = h.0; t'_most = h.1; k_least = le_z_yes tt; M-most = le_z_yes tt; sine_room = le_z_yes tt; cosine_room = le_z_yes tt }))
      (λ h. ⊎_elim
      (λ (l : t <ℤ t'). by (pos 281104952) (pos 1) t t' (record { t_least = t_least; apart = le_by (gap< l) (ring! (t ∷ t' ∷ []) (search quote depth 40) tt); t'_most = h.1; k_least = le_z_yes tt; M-most = le_z_yes tt; sine_room = le_z_yes tt; cosine_room = le_z_yes tt }))
      (λ (l : t' ≤ℤ t). subst (P t) (≤ℤ-antisymm h.0 l) (same t))
      (<ℤ-total t t'))

pub sine-rises : SineRises
sine-rises = further (λ t t'. sine_of t ≤ℤ sine_of t') (λ t. ≤ℤ_refl (sine_of t)) (λ M k t t' a. sine-by a)

pub cosine-falls : CosineFalls
cosine-falls = further (λ t t'. cosine_of t' ≤ℤ cosine_of t) (λ t. ≤ℤ_refl (cosine_of t)) (λ M k t t' a. cosine-by a)

pub step_falls : StepFalls
unfolding sine_of square_of series_of
step_falls = lt_z_yes tt

pub sine-rises_by : SineRisesBy
unfolding angle_of
sine-rises_by T a k t t' t_least a-least apart t'_most T-most room =
    let u : Up T t t' = record {
      t_least = t_least;
      order = le_by (gap apart ⊞ a-least) (ring! (t ∷ t' ∷ a ∷ []) (search quote depth 40) tt);
      t'_most = t'_most;
      M-most = le_by (5 · (gap T-most ⊠ (gap T-most ⊞ 2 · (gap t'_most ⊞ gap apart ⊞ a-least ⊞ t_least))) ⊞ num (6 * 2 ^ 60 - 5 * 1124419808 * 1124419808)) (ring! (T ∷ t ∷ t' ∷ a ∷ []) (search quote depth 40 fits 9000) tt);
    } in
    sine-rises_by_least u a k a-least apart room
