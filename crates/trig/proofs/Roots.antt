-- The root from below is the largest whole number whose square is at most q; rounded, it is the one whole number between its two squares. Assumes nothing.
use mathlib.Core.Path.{◌≡◌, sym, subst}
use mathlib.Core.List.{[], ◌∷◌}
use mathlib.Core.Logic.{⊎_elim}
use Prim.Native.Nat.{ℕ, zero, suc, ◌+◌, ◌*◌, ◌-◌, ◌^◌, ◌≤◌, ◌<◌}
use native.Mathlib.Nat.{add_assoc, two-pow-succ, mul-le-mul, lt_of_not-le, le_of_suc-le-suc}
use native.Mathlib.Omega.{arith}
use borrow.Author.Tests.{leb-true, leb-false, ltb-true, ltb-false, lt-ltb, le-ltb}
use lib.Dec.{leb, ltb}
use lib.IntN.{ℤ, pos, nat_abs, ◌+ℤ◌, ◌-ℤ◌, ◌*ℤ◌}
use lib.Signed.{◌≤ℤ◌, ◌<ℤ◌, clash_ℤ}
use Rattle.arith.proofs.Choose.{choose}
use Rattle.arith.proofs.Quote.{ring!, quote}
use Rattle.arith.proofs.Parts.{linear}
use Rattle.arith.proofs.Order.{<ℤ→≤ℤ, ≤ℤ-antisymm, <ℤ-total, abs_parts}
use Rattle.arith.proofs.Cert.{◌⊞◌, ◌⊠◌, ◌·◌, num, gap, gap<, le_by, lt_by, lt-by*}
use Rattle.arith.specs.Bounds.{Within}
use Rattle.arith.proofs.Fits.{cast_is, within}
use Rattle.trig.specs.Trig.{Root, root_bits, root_below, rounded, root_of, root_limit}
use Rattle.trig.specs.Laws.{IsRootBelow, IsRoot}

-- ---- the root from below: k bits are still to come

abbrev Below : (q s : ℕ) → Type 0
Below q s = (s * s ≤ q) × (q < (s + 1) * (s + 1))

bits_below : (k q s : ℕ) → s * s ≤ q → q < (s + 2 ^ k) * (s + 2 ^ k) → Below q (root_bits k q s)
unfolding root_bits
bits_below zero q s h l = (h, l)
bits_below (suc k) q s h l =
    choose (λ n. Below q (root_bits k q n)) (leb ((s + 2 ^ k) * (s + 2 ^ k)) q) (s + 2 ^ k) s
    (λ e. bits_below k q (s + 2 ^ k) (leb-true _ _ e) (rw (add_assoc, ← two-pow-succ k) l))
    (λ e. bits_below k q s h (leb-false _ _ e))

pub is_root_below : IsRootBelow
unfolding root_below
is_root_below q h = bits_below 31 q 0 (omega arith) (omega arith)

pub below_most : (q s : ℕ) → q ≤ 2 ^ 60 → s * s ≤ q → s ≤ 2 ^ 30
below_most q s h k = le_of_suc-le-suc (lt_of_not-le (λ (l : 2 ^ 30 + 1 ≤ s). omega (arith, mul-le-mul l l)))

-- ---- the rounded root

root_same : (q s : ℤ) → pos 1 ≤ℤ s → (s *ℤ s) ≤ℤ q → q ≤ℤ (s *ℤ s +ℤ s) → Root q s
root_same q s one h k = record {
  low = le_by (4 · gap h ⊞ 4 · gap one ⊞ num 3) (ring! (q ∷ s ∷ []) (search quote depth 40) tt);
  high = lt_by (4 · gap k) (ring! (q ∷ s ∷ []) (search quote depth 40) tt);
}

root_next : (q s : ℤ) → pos 0 ≤ℤ s → (s *ℤ s +ℤ s +ℤ pos 1) ≤ℤ q → q <ℤ ((s +ℤ pos 1) *ℤ (s +ℤ pos 1)) → Root q (s +ℤ pos 1)
root_next q s s-nonneg h k = record {
  low = le_by (4 · gap h ⊞ num 3) (ring! (q ∷ s ∷ []) (search quote depth 40) tt);
  high = lt_by (4 · gap< k ⊞ 4 · s-nonneg ⊞ num 8) (ring! (q ∷ s ∷ []) (search quote depth 40) tt);
}

below_positive : (q s : ℕ) → 1 ≤ q → Below q s → 1 ≤ s
below_positive q zero one b = omega arith
below_positive q (suc s) one b = omega arith

rounded-root : (q s : ℕ) → 1 ≤ q → Below q s → Root (pos q) (pos (rounded s (q - s * s)))
unfolding rounded
rounded-root q s one b =
    let s-positive = below_positive q s one b in
    choose (λ r. Root (pos q) (pos r)) (ltb s (q - s * s)) (s + 1) s
    (λ e. let l = ltb-true s (q - s * s) e in root_next (pos q) (pos s) (num s) (omega linear) (omega linear))
    (λ e. let l = ltb-false s (q - s * s) e in root_same (pos q) (pos s) (omega linear) (omega linear) (omega linear))

-- ---- there is no other

root_positive : {q r : ℤ} → Root q r → pos 0 <ℤ r
root_positive {q} {r} h = lt-by* 8 tt (gap< h.high ⊞ gap h.low) (ring! (q ∷ r ∷ []) (search quote depth 40) tt)

no_less : {q r s : ℤ} → Root q r → Root q s → r <ℤ s → ⊥
no_less {q} {r} {s} h k l =
    let g = gap< l in
    clash_ℤ h.high (le_by (gap k.low ⊞ 4 · (g ⊠ (g ⊞ 2 · <ℤ→≤ℤ (root_positive h) ⊞ num 1))) (ring! (q ∷ r ∷ s ∷ []) (search quote depth 40) tt))

pub one_root : {q r s : ℤ} → Root q r → Root q s → r ≡ s
one_root {q} {r} {s} h k =
    ≤ℤ-antisymm (⊎_elim (λ l. absurd (no_less k h l)) (λ g. g) (<ℤ-total s r)) (⊎_elim (λ l. absurd (no_less h k l)) (λ g. g) (<ℤ-total r s))

pub is_root : IsRoot
unfolding root_of
is_root q one h =
    let r = rounded-root q (root_below q) one (is_root_below q h) in
    (r, λ s k. one_root k r)

-- s is the root where -s < q - s² ≤ s
pub root_by_off : (q s : ℤ) → Within (pos 1) (pos root_limit) q → (pos 0 -ℤ s) <ℤ (q -ℤ s *ℤ s) → (q -ℤ s *ℤ s) ≤ℤ s → s ≡ pos (root_of (nat_abs q))
root_by_off q s range low high =
    let r : Root q s = record {
      low = le_by (4 · gap< low ⊞ num 3) (ring! (q ∷ s ∷ []) (search quote depth 40) tt);
      high = lt_by (4 · gap high) (ring! (q ∷ s ∷ []) (search quote depth 40) tt);
    } in
    let a = abs_parts q in
    (is_root (nat_abs q) (omega (linear, range.low, a)) (omega (linear, range.high, a))).1 s (subst (λ z. Root z s) (sym (cast_is (within range) tt)) r)

-- the root from below, n, is the root where q - n² ≤ n, else n + 1 is
pub root_by_below : (q : ℤ) (n : ℕ) → Within (pos 1) (pos root_limit) q → n * n ≤ nat_abs q → nat_abs q < (n + 1) * (n + 1) → pos (rounded n (nat_abs q - n * n)) ≡ pos (root_of (nat_abs q))
root_by_below q n range low high =
    let a = abs_parts q in
    let one : 1 ≤ nat_abs q = omega (linear, range.low, a) in
    (is_root (nat_abs q) one (omega (linear, range.high, a))).1 _ (rounded-root (nat_abs q) n one (low, high))

pub rounded-up : (s m : ℕ) → s < m → s + 1 ≡ rounded s m
unfolding rounded
rounded-up s m h = rw (lt-ltb s m h)

pub rounded-down : (s m : ℕ) → m ≤ s → s ≡ rounded s m
unfolding rounded
rounded-down s m h = rw (le-ltb s m h)
