-- A difference of two longitudes, shifted: it lies in one turn, differs from the plain one by whole turns, and is the only such number. Assumes nothing.
use mathlib.Core.Path.{◌≡◌}
use mathlib.Core.List.{[], ◌∷◌}
use lib.IntN.{ℤ, pos, negsuc, neg_ℤ, ◌+ℤ◌, ◌-ℤ◌, ◌*ℤ◌}
use lib.Signed.{lt_z, ◌≤ℤ◌, ◌<ℤ◌}
use Rattle.arith.proofs.Choose.{choose}
use Rattle.arith.proofs.Quote.{ring!, quote}
use Rattle.arith.proofs.Parts.{linear, add_parts, sub_parts, mul_parts}
use Rattle.arith.proofs.Order.{lt_true, lt_false}
use Rattle.sheet.specs.Sheets.{m0, shifted, offset_of}
use Rattle.sheet.specs.Laws.{ShiftedRange, ShiftedTurns, ShiftedOnly, OffsetRange}
use Rattle.sheet.proofs.Limits.{limits_hold}

-- half a turn, and a turn
abbrev pub half : ℤ
half = pos 180000000

abbrev turn : ℤ
turn = pos 360000000

-- what holds of a turn more, of the number itself and of a turn less, each where it is taken, holds of the shifted number
by_shift : (P : ℤ → Type 0) (a : ℤ) → (a <ℤ neg_ℤ half → P (a +ℤ turn)) → (neg_ℤ half ≤ℤ a → a <ℤ half → P a) → (half ≤ℤ a → P (a -ℤ turn)) → P (shifted a)
unfolding shifted
by_shift P a up stay down =
    choose P (lt_z a (neg_ℤ half)) _ _ (λ e. up (lt_true e))
    (λ e. choose P (lt_z a half) _ _ (λ f. stay (lt_false e) (lt_true f)) (λ f. down (lt_false f)))

pub shifted-range : ShiftedRange
shifted-range a least below =
    by_shift (λ d. (neg_ℤ half ≤ℤ d) × (d <ℤ half)) a
    (λ west. omega (linear, add_parts a turn)) (λ from to. (from, to)) (λ east. omega (linear, sub_parts a turn))

pub shifted-turns : ShiftedTurns
shifted-turns a =
    by_shift (λ d. (k : ℤ) × (a ≡ d +ℤ turn *ℤ k)) a
    (λ _. (negsuc 0, ring! (a ∷ []) (search quote depth 20) tt))
    (λ _ _. (pos 0, ring! (a ∷ []) (search quote depth 20) tt))
    (λ _. (pos 1, ring! (a ∷ []) (search quote depth 20) tt))

-- two numbers in one turn that differ by whole turns are equal
pub shifted-only : ShiftedOnly
shifted-only a d k least below from to e =
    let r = shifted-range a least below in
    let t = shifted-turns a in
    omega (linear, t.1, add_parts (shifted a) (turn *ℤ t.0), mul_parts 360000000 t.0, add_parts d (turn *ℤ k), mul_parts 360000000 k)

pub offset-range : OffsetRange
unfolding offset_of
offset-range s longitude e h =
    let l = limits_hold s e in
    let parts = sub_parts longitude (m0 s) in
    shifted-range (longitude -ℤ m0 s) (omega linear) (omega linear)
