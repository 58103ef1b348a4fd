-- One fact over a factor row, for sine and cosine alike: how far the computed p is from the row's value without rounding.
-- Then the two rows without rounding that it is held against: one that starts from 1, and one that goes on where the computed row starts. Assumes nothing.
use mathlib.Core.List.{List, [], ◌∷◌}
use Prim.Native.Nat.{ℕ, ◌+◌, ◌*◌, ◌^◌, ◌≤◌}
use native.Mathlib.Nat.{lt-mul-div-succ}
use native.Mathlib.Omega.{arith}
use lib.IntN.{ℤ, pos, ◌+ℤ◌, ◌-ℤ◌, ◌*ℤ◌}
use lib.Signed.{◌≤ℤ◌, ◌<ℤ◌, quot_z, le_z_yes, lt_z_yes}
use Rattle.arith.specs.Bounds.{Size}
use Rattle.arith.proofs.Quote.{ring!, quote}
use Rattle.arith.proofs.Parts.{linear}
use Rattle.arith.proofs.Order.{<ℤ→≤ℤ}
use Rattle.arith.proofs.Cert.{◌⊞◌, ◌⊠◌, ◌·◌, num, gap, le_by, le_by*, nonneg_by, 0<*}
use Rattle.arith.proofs.Size.{size_by, size-+, size_neg, size-*, size_scale, size_nonneg, size_self, size_quot}
use Rattle.trig.specs.Trig.{ONE, series_of}
use Rattle.trig.specs.Row.{row_num, row_den, row_error, start_error, AtLeast, NearSquare, NearFraction, RowFact, LongRowFact}

pub num_size : {p N D e : ℤ} → NearFraction p N D e → Size D N
num_size k = size_nonneg k.N-nonneg k.N-most

-- one factor f more, with an error e' after it
module _ {m z A B u p N D e : ℤ} (s : NearSquare m z A B u) (k : NearFraction p N D e) (f e' : ℤ) (f-least : pos 1 ≤ℤ f) (f-enough : m ≤ℤ (pos 5 *ℤ f)) where
  B-nonneg : pos 0 ≤ℤ B
  B-nonneg = <ℤ→≤ℤ s.B-positive

  D-nonneg : pos 0 ≤ℤ D
  D-nonneg = <ℤ→≤ℤ k.D-positive

  -- the fraction lies from 0 to 1 again
  near_by : (p' : ℤ) → let D' = B *ℤ f *ℤ D in let N' = D' -ℤ A *ℤ N in Size (e' *ℤ D') (pos 1000 *ℤ (p' *ℤ D' -ℤ ONE *ℤ N')) → NearFraction p' N' D' e'
  near_by p' off =
      let f0 : pos 0 <ℤ f = omega linear in
      let ρ = m ∷ A ∷ B ∷ N ∷ D ∷ f ∷ [] in
      record {
        D-positive = 0<* (0<* s.B-positive f0) k.D-positive;
        N-nonneg = le_by* 5 tt
            (gap s.A-most ⊠ D-nonneg ⊞ 5 · (s.A-nonneg ⊠ gap k.N-most) ⊞ B-nonneg ⊠ gap f-enough ⊠ D-nonneg)
            (ring! ρ (search quote depth 40) tt);
        N-most = le_by (s.A-nonneg ⊠ k.N-nonneg) (ring! ρ (search quote depth 40) tt);
        off = off;
      }

  -- the computed row: its error is a sum of what is off in ζ, in the p before, and in this division
  next-near : (q : ℤ) → Size (ONE *ℤ f) (z *ℤ p -ℤ ONE *ℤ f *ℤ q) → (pos 5 *ℤ u +ℤ m *ℤ e +ℤ pos 5000 *ℤ f) ≤ℤ (pos 5 *ℤ (e' *ℤ f)) →
      NearFraction (ONE -ℤ q) (B *ℤ f *ℤ D -ℤ A *ℤ N) (B *ℤ f *ℤ D) e'
  next-near q left enough =
      let ρ = m ∷ z ∷ A ∷ B ∷ N ∷ D ∷ p ∷ q ∷ f ∷ u ∷ e ∷ e' ∷ [] in
      let off_part = size_scale (num (5 * 2 ^ 30)) (size-* (num_size k) s.off) in
      let before-part = size_neg (size-* (size_nonneg (5 · s.z_nonneg) s.z_most) (size_scale B-nonneg k.off)) in
      let left-part = size_scale (5000 · (B-nonneg ⊠ D-nonneg)) left in
      near_by (ONE -ℤ q) (size_by (pos 5 *ℤ ONE) (lt_z_yes tt) (size-+ (size-+ off_part before-part) left-part)
      ((2 ^ 30) · (gap enough ⊠ (B-nonneg ⊠ D-nonneg))) (ring! ρ (search quote depth 40 fits 9000) tt) (ring! ρ (search quote depth 40 fits 9000) tt))

  -- where the computed row starts: 1 - ζ N / (f D) differs from 1 by at most m / 5 / f
  start_near : (pos 1000 *ℤ m *ℤ ONE) ≤ℤ (pos 5 *ℤ (e' *ℤ f)) → NearFraction ONE (B *ℤ f *ℤ D -ℤ A *ℤ N) (B *ℤ f *ℤ D) e'
  start_near enough =
      let ρ = m ∷ A ∷ B ∷ N ∷ D ∷ f ∷ e' ∷ [] in
      near_by ONE (size_nonneg
      (nonneg_by ((1000 * 2 ^ 30) · (s.A-nonneg ⊠ k.N-nonneg)) (ring! ρ (search quote depth 40) tt))
      (le_by* 5 tt
      (gap enough ⊠ (B-nonneg ⊠ D-nonneg) ⊞ (1000 * 2 ^ 30) · (gap s.A-most ⊠ D-nonneg ⊞ 5 · (s.A-nonneg ⊠ gap k.N-most)))
      (ring! ρ (search quote depth 40 fits 9000) tt)))

pub row_fact : RowFact
unfolding series_of
row_fact m [] h z A B u s N₀ D₀ e k = k
row_fact m (f ∷ fs) h z A B u s N₀ D₀ e k =
    let p = series_of fs z in
    let f-least : 1 ≤ f = h.0.0 in
    let d = lt-mul-div-succ (5 * u + m * row_error m u e fs) {b = 5 * f} (omega arith) in
    next-near s (row_fact m fs h.1 z A B u s N₀ D₀ e k) (pos f) (pos (row_error m u e (f ∷ fs))) (omega linear) (omega (linear, h.0.1))
    (quot_z (z *ℤ p) (ONE *ℤ pos f)) (size_quot (2 ^ 30 * f) (omega arith) (z *ℤ p)) (omega linear)

pub row_from_one : {m : ℕ} {z A B : ℤ} {u : ℕ} → NearSquare (pos m) z A B (pos u) → (fs : List ℕ) → AtLeast m fs →
    NearFraction (series_of fs z) (row_num A B (pos 1) (pos 1) fs) (row_den B (pos 1) fs) (pos (row_error m u 0 fs))
row_from_one s fs h = row_fact _ fs h _ _ _ _ s (pos 1) (pos 1) 0
    (record { D-positive = lt_z_yes tt; N-nonneg = le_z_yes tt; N-most = le_z_yes tt; off = size_self (num 0) })

pub long_row_fact : LongRowFact
long_row_fact m row row_ok f more more-ok z A B u s =
    let f-least : 1 ≤ f = more-ok.0.0 in
    let d = lt-mul-div-succ (200 * m * 2 ^ 30) {b = f} (omega arith) in
    row_fact m row row_ok z A B u s _ _ (start_error m f)
    (start_near s (row_from_one s more more-ok.1) (pos f) (pos (start_error m f)) (omega linear) (omega (linear, more-ok.0.1)) (omega linear))
