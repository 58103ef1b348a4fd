-- Longitudes -180,000,000 and 180,000,000 are the same meridian; the longitude at an offset has that offset; a longitude mirrored about the central meridian has the opposite
-- one. Assumes nothing.
use mathlib.Core.Path.{◌≡◌}
use mathlib.Core.Bool.{true}
use mathlib.Core.List.{[], ◌∷◌}
use lib.IntN.{ℤ, pos, negsuc, neg_ℤ, ◌+ℤ◌, ◌-ℤ◌, ◌*ℤ◌}
use lib.Signed.{◌≤ℤ◌, ◌<ℤ◌}
use Rattle.arith.proofs.Quote.{ring!, quote}
use Rattle.arith.proofs.Parts.{linear, add_parts, sub_parts, neg_parts, mul_parts}
use Rattle.arith.proofs.Cert.{eq_by, ◌⊛◌, ◌⊹◌}
use Rattle.arith.proofs.Size.{size_neg}
use Rattle.sheet.specs.declared.Sheet.{Sheet}
use Rattle.sheet.specs.Sheets.{m0, w, within_limits, shifted, offset_of, on_sheet}
use Rattle.sheet.specs.Laws.{InLimits, IsOnSheet, SameMeridian, LongitudeAtOffset, mirrored, MirroredOffset}
use Rattle.sheet.proofs.Limits.{limits_hold}
use Rattle.sheet.proofs.Shifted.{half, shifted-range, shifted-turns, shifted-only}
use Rattle.sheet.proofs.Positions.{on_sheet-holds, holds-on_sheet}

-- the offset of -180 degrees differs from that of 180 by one turn less
same_offset : (s : Sheet) → within_limits s ≡ true → offset_of s (neg_ℤ half) ≡ offset_of s half
unfolding offset_of
same_offset s e =
    let l = limits_hold s e in
    let m = m0 s in
    let east = half -ℤ m in
    let east-parts = sub_parts half m in
    let west-parts = sub_parts (neg_ℤ half) m in
    let r = shifted-range east (omega linear) (omega linear) in
    let t = shifted-turns east in
    shifted-only (neg_ℤ half -ℤ m) (shifted east) (t.0 -ℤ pos 1) (omega linear) (omega linear) r.0 r.1
    (eq_by (pos 1 ⊛ t.1) (ring! (m ∷ shifted east ∷ t.0 ∷ []) (search quote depth 20) tt))

pub same_meridian : SameMeridian
unfolding on_sheet
same_meridian s latitude e = (same_offset s e, rw (same_offset s e))

-- d lies in the range of offsets, and differs from that longitude less m0 by whole turns
pub longitude_at-offset : LongitudeAtOffset
unfolding offset_of
longitude_at-offset s d e h =
    let l = limits_hold s e in
    let m = m0 s in
    let u = shifted (m +ℤ d) in
    let sum-parts = add_parts m d in
    let r = shifted-range (m +ℤ d) (omega linear) (omega linear) in
    let t = shifted-turns (m +ℤ d) in
    let parts = sub_parts u m in (
      r.0,
      r.1,
      shifted-only (u -ℤ m) d (neg_ℤ t.0) (omega linear) (omega linear) (omega linear) (omega linear)
          (eq_by (negsuc 0 ⊛ t.1) (ring! (m ∷ d ∷ u ∷ t.0 ∷ []) (search quote depth 40) tt)),
    )

module _ (s : Sheet) (latitude longitude : ℤ) (e : within_limits s ≡ true) (o : on_sheet s latitude longitude ≡ true) where
  limits : InLimits s
  limits = limits_hold s e

  position : IsOnSheet s latitude longitude
  position = on_sheet-holds s latitude longitude o

  mirrored-range : (neg_ℤ half ≤ℤ mirrored s longitude) × (mirrored s longitude <ℤ half)
  unfolding mirrored
  mirrored-range =
      let l = limits in
      let i = position.longitude_range in
      let twice = mul_parts 2 (m0 s) in
      let parts = sub_parts (pos 2 *ℤ m0 s) longitude in
      shifted-range (pos 2 *ℤ m0 s -ℤ longitude) (omega linear) (omega linear)

  -- -d lies in the range of offsets, and differs from the mirrored longitude less m0 by whole turns
  opposite : offset_of s (mirrored s longitude) ≡ neg_ℤ (offset_of s longitude)
  unfolding offset_of mirrored
  opposite =
      let l = limits in
      let i = size_neg position.offset in
      let r = mirrored-range in
      let m = m0 s in
      let u = mirrored s longitude in
      let d = offset_of s longitude in
      let j = shifted-turns (pos 2 *ℤ m -ℤ longitude) in
      let k = shifted-turns (longitude -ℤ m) in
      let parts = sub_parts u m in
      let west = neg_parts (w s) in
      shifted-only (u -ℤ m) (neg_ℤ d) (neg_ℤ (j.0 +ℤ k.0)) (omega linear) (omega linear) (omega linear) (omega linear)
      (eq_by (negsuc 0 ⊛ j.1 ⊹ negsuc 0 ⊛ k.1) (ring! (m ∷ longitude ∷ u ∷ d ∷ j.0 ∷ k.0 ∷ []) (search quote depth 40) tt))

pub mirrored-offset : MirroredOffset
mirrored-offset s latitude longitude e o =
    let r = mirrored-range s latitude longitude e o in
    let d = opposite s latitude longitude e o in
    let i = position s latitude longitude e o in
    (d, holds-on_sheet s latitude (mirrored s longitude) (record { longitude_range = omega linear; between_edges = i.between_edges; offset = rw d (size_neg i.offset) }))
