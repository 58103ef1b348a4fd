-- A coordinate, by what its digits spell; and a line, by its two coordinates. Assumes nothing.
use mathlib.Core.Bool.{Bool, true, false, cond, ◌&&◌}
use mathlib.Mathlib.Data.Bool.Basic.{eq-false_of_not-eq-true}
use mathlib.Core.List.{List, [], ◌∷◌}
use mathlib.Core.Path.{◌≡◌, refl, sym, ap, ◌∙◌}
use Prim.Native.Nat.{ℕ, suc, ◌-◌, ◌≤◌, ◌<◌}
use native.Mathlib.Omega.{arith}
use borrow.Author.Tests.{ltb-true, ltb-false, ne_eqb}
use lib.Dec.{ltb, eqb}
use lib.IntN.{ℤ, pos, neg_ℤ, nat_abs}
use lib.ListN.{length, length-drop, take, drop, drop_of_length-le}
use lib.Seq.{take_all}
use Rattle.std.specs.Prelude.{Option, Some, None}
use Rattle.std.specs.List.{position_or_len}
use Rattle.std.specs.Option.{MatchOption, option_and_then}
use Rattle.arith.proofs.Choose.{by_test}
use Rattle.arith.specs.Bounds.{size_up_to}
use Rattle.arith.proofs.Order.{abs_neg, abs_size, size_abs, within_true, true_within}
use Rattle.refusal.specs.declared.Refusal.TheVariants.{OutOfRange}
use Rattle.refusal.specs.Numbers.{Reply, accepted}
use Rattle.refusal.specs.Rules.{◌else-refuse◌, in_order}
use Rattle.conic.specs.MapToGlobe.{point_limit}
use Rattle.text.specs.Decimals.{minus, is_numeral, is_number, spelled_from, spelled}
use Rattle.text.specs.Lines.{space}
use Rattle.text.specs.TapLines.{before_space, after_space, line_reply_of}
use Rattle.text.specs.Coordinates.{coordinate_of, point_of, sized_coordinate, too_large, numeral_of}

-- the size of a number with its sign
size_of : (negative : Bool) (v : ℕ) → nat_abs (cond negative (neg_ℤ (pos v)) (pos v)) ≡ v
size_of true v = abs_neg (pos v)
size_of false v = refl

-- by the test of a number's size: it is below the number that is too large, or not
within_limit : (z : ℤ) → nat_abs z < too_large → size_up_to point_limit z ≡ true
within_limit z h = true_within {z = z} (abs_size {m = point_limit} (omega arith))

past-limit : (z : ℤ) → too_large ≤ nat_abs z → size_up_to point_limit z ≡ false
past-limit z h = eq-false_of_not-eq-true {b = size_up_to point_limit z} (λ t. omega (arith, size_abs {z = z} {m = point_limit} (within_true t)))

pub sized_is : (negative : Bool) (bs : List ℕ) → let z = cond negative (neg_ℤ (pos (spelled_from 0 bs))) (pos (spelled_from 0 bs)) in
    option_and_then (sized_coordinate negative) (numeral_of bs) ≡ cond (is_numeral bs && size_up_to point_limit z) (Some z) None
unfolding sized_coordinate numeral_of
sized_is negative bs =
    let v = spelled_from 0 bs in
    let z = cond negative (neg_ℤ (pos v)) (pos v) in
    by_test (is_numeral bs)
    (λ t.
    rw t
    (by_test (ltb v too_large)
    (λ below. let h = ltb-true v too_large below in rw (below, below, within_limit z (rw (size_of negative v) h)))
    (λ not-below. let h = ltb-false v too_large not-below in rw (not-below, past-limit z (rw (size_of negative v) h)))))
    (λ f. rw f)

-- a coordinate, by its first byte
pub minus_read : (bs : List ℕ) → coordinate_of (minus ∷ bs) ≡ option_and_then (sized_coordinate true) (numeral_of bs)
unfolding coordinate_of is_number spelled
minus_read bs = sym (sized_is true bs)

pub no_minus_read : (bs : List ℕ) → ((rest : List ℕ) → bs ≡ minus ∷ rest → ⊥) → coordinate_of bs ≡ option_and_then (sized_coordinate false) (numeral_of bs)
unfolding coordinate_of is_number spelled numeral_of is_numeral
no_minus_read [] h = refl
no_minus_read (b ∷ bs) h = rw (ne_eqb b minus (λ q. h bs (ap (λ (first : ℕ). first ∷ bs) q))) (sym (sized_is false (b ∷ bs)))

-- the rest of a text from a position on, as the code takes it
pub rest_is : (k : ℕ) (l : List ℕ) → take (length l - k) (drop k l) ≡ drop k l
rest_is k l = take_all (length l - k) (drop k l) (omega (arith, length-drop k l))

-- the bytes before and after the first space, as parts of the line
pub before_is : (l : List ℕ) → take (length (before_space l)) l ≡ before_space l
before_is [] = refl
before_is (b ∷ bs) =
    by_test (eqb b space) (λ t. rw t) (λ f. rw (f, before_is bs))

pub after_is : (l : List ℕ) → drop (suc (length (before_space l))) l ≡ after_space l
after_is [] = refl
after_is (b ∷ bs) =
    by_test (eqb b space)
    (λ t. rw t)
    (λ f. rw f (after_is bs))

-- where there is none, nothing stands behind it
pub none_after : (l : List ℕ) → length l ≤ length (before_space l) → after_space l ≡ []
none_after l h = sym (after_is l) ∙ drop_of_length-le l {i = suc (length (before_space l))} (omega arith)

position_is : (l : List ℕ) → position_or_len (λ b. eqb b space) l ≡ length (before_space l)
position_is [] = refl
position_is (b ∷ bs) = by_test (eqb b space) (λ t. rw t) (λ f. rw f (omega (arith, position_is bs)))

-- so where the first space is found, so many bytes stand before it
pub space_found : (l : List ℕ) (r : Option ℕ) → let k = position_or_len (λ b. eqb b space) l in r ≡ cond (ltb k (length l)) (Some k) None →
    MatchOption r (after_space l ≡ []) (λ n. (n < length l) × (n ≡ length (before_space l)))
space_found l r e =
    let k = position_or_len (λ b. eqb b space) l in
    by_test (ltb k (length l))
    (λ t. let f = rw t at e in rw f (ltb-true k (length l) t, position_is l))
    (λ f. let g = rw f at e in rw g (none_after l (omega (arith, ltb-false k (length l) f, position_is l))))

-- a line with a coordinate that is none
pub none_of : (p : Bool) (reply other : Reply) → cond (p && false) reply other ≡ other
none_of true reply other = refl
none_of false reply other = refl

-- a line whose two coordinates are read
pub both_read : (p q r s : Bool) (x y : ℤ) →
    line_reply_of (point_of (cond (p && q) (Some x) None) (cond (r && s) (Some y) None))
    ≡ in_order 2 (((p && r) else-refuse OutOfRange) ∷ ((q && s) else-refuse OutOfRange) ∷ []) (accepted (x ∷ y ∷ []))
both_read false q r s x y = refl
both_read true false false s x y = refl
both_read true false true s x y = refl
both_read true true false s x y = refl
both_read true true true false x y = refl
both_read true true true true x y = refl
