-- Map to globe, and forth again, in plain whole numbers: a point, its root, and two directions around it. The first of them leads back to within a distance of 16 units. Assumes nothing.
use mathlib.Core.List.{[], ◌∷◌}
use Prim.Native.Nat.{◌*◌, ◌+◌, ◌-◌, ◌^◌}
use lib.Dec.{lit<}
use lib.IntN.{ℤ, pos, neg_ℤ, ◌+ℤ◌, ◌-ℤ◌, ◌*ℤ◌}
use lib.Signed.{◌≤ℤ◌, ◌<ℤ◌, quot_z, le_z_yes, lt_z_yes}
use Rattle.arith.specs.Bounds.{Within, Size}
use Rattle.arith.proofs.Quote.{ring!, quote}
use Rattle.arith.proofs.Order.{≤ℤ-trans, <ℤ→≤ℤ}
use Rattle.arith.proofs.Cert.{◌⊞◌, ◌⊠◌, ◌·◌, sq, num, gap, gap<, le_by, lt_by, le_by*, lt-by*, *ℤ-cancelˡ-≤}
use Rattle.arith.proofs.Size.{size_by, size_root, size-+, size_neg, size-*, size_scale, size_wider, size_nonneg, size_quot}
use Rattle.trig.specs.Trig.{ONE, Root}

-- the point (x, v), its root r, and the directions (S, C) and (S', C')
module _ (x v r S C S' C' : ℤ) (v-positive : pos 0 <ℤ v) (root : Root (x *ℤ x +ℤ v *ℤ v) r) (r_range : Within (pos 1000000) (pos 268435456) r)
    (from : (v *ℤ S) ≤ℤ (x *ℤ C)) (to : (x *ℤ C') ≤ℤ (v *ℤ S')) (S-step : Size (pos 30) (S' -ℤ S)) (C-step : Size (pos 26) (C' -ℤ C))
    (C-least : (pos 2 *ℤ ONE) ≤ℤ (pos 5 *ℤ C)) (circle : Size (pos 49 *ℤ ONE) (pos 5 *ℤ (S *ℤ S +ℤ C *ℤ C -ℤ ONE *ℤ ONE)))
  where
    -- across the first direction and along it
    abbrev E : ℤ
    E = x *ℤ C -ℤ v *ℤ S

    abbrev F : ℤ
    F = x *ℤ S +ℤ v *ℤ C

    abbrev q : ℤ
    q = x *ℤ x +ℤ v *ℤ v

    q_nonneg : pos 0 ≤ℤ q
    q_nonneg = sq x ⊞ sq v

    r_nonneg : pos 0 ≤ℤ r
    r_nonneg = ≤ℤ-trans (le_z_yes tt) r_range.low

    q_near : Size r (q -ℤ r *ℤ r)
    q_near = record {
      low = le_by* 4 tt (gap root.low ⊞ num 1) (ring! (x ∷ v ∷ r ∷ []) (search quote depth 40) tt);
      high = le_by* 4 tt (gap< root.high) (ring! (x ∷ v ∷ r ∷ []) (search quote depth 40) tt);
    }

    -- from the circle, since C ≥ 0.4 ONE
    S-size : Size ONE S
    S-size = size_root (num (2 ^ 30)) (lt-by* 25 tt
        (5 · gap circle.high ⊞ gap C-least ⊠ (gap C-least ⊞ num (2 ^ 32)) ⊞ num (4 * 2 ^ 60 - 195 * 2 ^ 30 + 24)) (ring! (S ∷ C ∷ []) (search quote depth 40) tt))

    -- E² ≤ (30² + 26²) q: E lies from 0 to x (C - C') - v (S - S')
    E-square : (E *ℤ E) ≤ℤ (pos 1576 *ℤ q)
    E-square = le_by
        (q_nonneg ⊠ (gap S-step.high ⊠ gap S-step.low ⊞ gap C-step.high ⊠ gap C-step.low)
        ⊞ sq (x *ℤ (S' -ℤ S) +ℤ v *ℤ (C' -ℤ C)) ⊞ gap to ⊠ (gap to ⊞ 2 · gap from))
        (ring! (x ∷ v ∷ S ∷ C ∷ S' ∷ C' ∷ []) (search quote depth 40 fits 9000) tt)

    E-size : Size (pos 40 *ℤ r) E
    E-size = size_root (40 · r_nonneg) (lt_by
        (gap E-square ⊞ 1576 · gap q_near.high ⊞ 24 · (r_nonneg ⊠ gap r_range.low) ⊞ (24 * 1000000 - 1496) · r_nonneg)
        (ring! (x ∷ v ∷ S ∷ C ∷ r ∷ []) (search quote depth 40 fits 9000) tt))

    -- C F = S E + v (S² + C²), where S E ≥ -40 r ONE
    F-least : neg_ℤ (pos 100 *ℤ r) ≤ℤ F
    F-least = *ℤ-cancelˡ-≤ C (lt-by* 5 tt (gap C-least ⊞ num (2 ^ 31 - 1)) (ring! (C ∷ []) (search quote depth 40) tt)) (le_by
        (gap (size-* S-size E-size).low ⊞ <ℤ→≤ℤ v-positive ⊠ (sq S ⊞ sq C) ⊞ 20 · (r_nonneg ⊠ gap C-least))
        (ring! (x ∷ v ∷ S ∷ C ∷ r ∷ []) (search quote depth 40 fits 9000) tt))

    -- (F - r ONE) (F + r ONE) is (q - r²) ONE² + q (S² + C² - ONE²) - E²: 1 from the root, 9.8 / 4 from the circle, and E² is next to nothing
    F-size : Size (pos 7 *ℤ ONE) (pos 2 *ℤ (F -ℤ r *ℤ ONE))
    F-size =
        let ρ = x ∷ v ∷ S ∷ C ∷ r ∷ [] in
        let root-part = size_scale (num (10 * 2 ^ 60)) q_near in
        let circle-part = size_scale (2 · q_nonneg) circle in
        let across-part = size_neg (size_scale (num 10) (size_nonneg (sq E) E-square)) in
        size_by (pos 5 *ℤ (F +ℤ r *ℤ ONE)) (lt_by (5 · gap F-least ⊞ (5 * 2 ^ 30 - 500) · gap r_range.low ⊞ num ((5 * 2 ^ 30 - 500) * 1000000 - 1)) (ring! ρ (search quote depth 40) tt)) (size-+ (size-+ root-part circle-part) across-part)
        ((35 * 2 ^ 30) · gap F-least ⊞ (98 * 2 ^ 30 + 15760) · (gap q_near.high ⊞ r_nonneg ⊠ gap r_range.high)
        ⊞ (25 * 2 ^ 60 - 3500 * 2 ^ 30 - (98 * 2 ^ 30 + 15760) * (2 ^ 28 + 1)) · r_nonneg)
        (ring! ρ (search quote depth 40 fits 9000) tt) (ring! ρ (search quote depth 40 fits 9000) tt)

    -- how far (r S, r C) lies from ONE (x, v)
    abbrev a : ℤ
    a = r *ℤ S -ℤ ONE *ℤ x

    abbrev b : ℤ
    b = r *ℤ C -ℤ ONE *ℤ v

    -- across it is ONE E, up to 10 ONE²; along it is up to 6 ONE²
    across_size : Size (pos 10 *ℤ ONE) E
    across_size = size_wider (le_by (40 · gap r_range.high) (ring! (r ∷ []) (search quote depth 40) tt)) E-size

    along_size : Size (pos 6 *ℤ (ONE *ℤ ONE)) (r *ℤ (S *ℤ S +ℤ C *ℤ C) -ℤ ONE *ℤ F)
    along_size =
        let circle-part = size_scale (2 · r_nonneg) circle in
        let length_part = size_neg (size_scale (num (5 * 2 ^ 30)) F-size) in
        size_by (pos 10) (lt_z_yes tt) (size-+ circle-part length_part) ((98 * 2 ^ 30) · gap r_range.high ⊞ num (2 ^ 59))
        (ring! (r ∷ []) (search quote depth 40) tt) (ring! (x ∷ v ∷ S ∷ C ∷ r ∷ []) (search quote depth 40 fits 9000) tt)

    -- (a² + b²) (S² + C²) is the sum of the squares of both
    distance : (a *ℤ a +ℤ b *ℤ b) ≤ℤ (pos 182 *ℤ (ONE *ℤ ONE))
    distance =
        let nonneg = sq a ⊞ sq b in
        le_by* (15 * 2 ^ 60) tt
        (4 · (gap circle.low ⊠ nonneg) ⊞ (5 * 2 ^ 60 - 196 * 2 ^ 30) · nonneg
        ⊞ (20 * 2 ^ 60) · gap (size-* across_size across_size).high ⊞ 20 · gap (size-* along_size along_size).high ⊞ num (10 * 2 ^ 120))
        (ring! (x ∷ v ∷ S ∷ C ∷ r ∷ []) (search quote depth 60 fits 20000) tt)

    -- the dropped fractions e and f add little: 4 (a - e)² ≤ 5 a² + 20 e²
    pub returned :
        let h = quot_z (r *ℤ S) ONE -ℤ x in
        let k = quot_z (r *ℤ C) ONE -ℤ v in
        (h *ℤ h +ℤ k *ℤ k) ≤ℤ pos 256
    returned =
        let e = r *ℤ S -ℤ ONE *ℤ quot_z (r *ℤ S) ONE in
        let f = r *ℤ C -ℤ ONE *ℤ quot_z (r *ℤ C) ONE in
        let e-size = size_quot (2 ^ 30) (lit< tt) (r *ℤ S) in
        let f-size = size_quot (2 ^ 30) (lit< tt) (r *ℤ C) in
        le_by* (4 * 2 ^ 60) tt
        (5 · gap distance ⊞ sq (a +ℤ pos 4 *ℤ e) ⊞ sq (b +ℤ pos 4 *ℤ f) ⊞ 20 · (gap (size-* e-size e-size).high ⊞ gap (size-* f-size f-size).high) ⊞ num (74 * 2 ^ 60))
        (ring! (x ∷ v ∷ S ∷ C ∷ r ∷ quot_z (r *ℤ S) ONE ∷ quot_z (r *ℤ C) ONE ∷ []) (search quote depth 60 fits 20000) tt)
