-- Lists put into a list one behind the other, as the loops that write do. Assumes nothing.
use mathlib.Core.Path.{◌≡◌, refl, sym, ◌∙◌}
use mathlib.Core.List.{List, [], ◌∷◌, ◌++◌, append_assoc, append-nil}
use Prim.Native.Nat.{ℕ, suc, ◌+◌, ◌*◌, ◌≤◌, ◌<◌}
use native.Mathlib.Nat.{add-zero, add_assoc}
use native.Mathlib.Numerals.{add-one}
use native.Mathlib.Omega.{arith}
use lib.ListN.{get_or, length, take, drop, set, length-append, length-set, take-append-drop, drop_of_length-le}
use lib.Seq.{sets-eq, length-take-le, take_at, drop_at, drop-drop, drop-cons}
use Rattle.little_endian.specs.Numbers.{u32_bytes, numbers_bytes, put}

pub put_none : (l : List ℕ) (at : ℕ) → put l at [] ≡ l
unfolding put
put_none l at = rw (add-zero, append-nil) (take-append-drop at l)

module _ (l : List ℕ) (at : ℕ) (xs : List ℕ) (h : at + length xs ≤ length l) where
  head_length : length (take at l ++ xs) ≡ at + length xs
  head_length = length-append (take at l) xs ∙ rw (length-take-le at l (omega arith))

  -- two lists put one behind the other
  pub put_append : (ys : List ℕ) → put l at (xs ++ ys) ≡ put (put l at xs) (at + length xs) ys
  unfolding put
  put_append ys =
      let n = at + length xs in
      rw (
        take_at (take at l ++ xs) (drop n l) n head_length,
        ← (drop-drop (length ys) n (take at l ++ xs ++ drop n l)),
        drop_at (take at l ++ xs) (drop n l) n head_length,
        drop-drop (length ys) n l,
        length-append xs ys,
        ← (append_assoc (take at l) xs ys),
        add_assoc,
      )

-- one element
set-put : (l : List ℕ) (at v : ℕ) → at < length l → set l at v ≡ put l at (v ∷ [])
unfolding put
set-put l at v h = sets-eq (v ∷ []) l at (omega arith)

-- a turn of a loop that copies: of what is still to be put, one element is put before the rest
pub copy_turn : (l s : List ℕ) (at i : ℕ) → at < length l → i < length s → put (set l at (get_or s i 0)) (at + 1) (drop (i + 1) s) ≡ put l at (drop i s)
copy_turn l s at i h k =
    rw (set-put l at (get_or s i 0), add-one i, drop-cons s i 0) (sym (put_append l at (get_or s i 0 ∷ []) (omega arith) (drop (suc i) s)))

-- the same of a loop that writes numbers
pub number-turn : (l us : List ℕ) (at i : ℕ) → at + 4 ≤ length l → i < length us →
    put (put l at (u32_bytes (get_or us i 0))) (at + 4) (numbers_bytes (drop (i + 1) us)) ≡ put l at (numbers_bytes (drop i us))
unfolding numbers_bytes u32_bytes
number-turn l us at i h k = rw (add-one i, drop-cons us i 0) (sym (put_append l at (u32_bytes (get_or us i 0)) (omega arith) (numbers_bytes (drop (suc i) us))))

-- what fills the list
pub put_all : (l vs : List ℕ) → length l ≡ length vs → put l 0 vs ≡ vs
unfolding put
put_all l vs e = rw (drop_of_length-le l {i = 0 + length vs} (omega arith), append-nil vs)

-- a kind byte, and behind it what fills the rest
pub put_behind : (l : List ℕ) (kind : ℕ) (vs : List ℕ) → length l ≡ suc (length vs) → put (set l 0 kind) 1 vs ≡ kind ∷ vs
put_behind l kind vs e = copy_turn l (kind ∷ vs) 0 0 (omega arith) (omega arith) ∙ put_all l (kind ∷ vs) e

-- a number takes four bytes
pub numbers_length : (us : List ℕ) → length (numbers_bytes us) ≡ 4 * length us
unfolding numbers_bytes u32_bytes
numbers_length [] = refl
numbers_length (u ∷ us) = omega (arith, numbers_length us)

-- a record that is written: its kind byte and its numbers, and what else its body has
pub written : (l us : List ℕ) (kind : ℕ) → length l ≡ 1 + 4 * length us → put (set l 0 kind) 1 (numbers_bytes us) ≡ kind ∷ numbers_bytes us
written l us kind e = put_behind l kind (numbers_bytes us) (omega (arith, numbers_length us))

pub written_before : (l us rest : List ℕ) (kind at : ℕ) → at ≡ 1 + 4 * length us → length l ≡ at + length rest →
    put (put (set l 0 kind) 1 (numbers_bytes us)) at rest ≡ kind ∷ (numbers_bytes us ++ rest)
written_before l us rest kind at a e =
    let k = numbers_length us in
    let end : at ≡ 1 + length (numbers_bytes us) = omega arith in
    rw (end, ← (put_append (set l 0 kind) 1 (numbers_bytes us) (omega (arith, length-set l 0 kind)) rest))
    (put_behind l kind (numbers_bytes us ++ rest) (omega (arith, length-append (numbers_bytes us) rest)))

-- a lent part that holds vs afterwards
pub put_part : (l : List ℕ) (at k : ℕ) (vs : List ℕ) → k ≡ length vs → take at l ++ (vs ++ drop k (drop at l)) ≡ put l at vs
unfolding put
put_part l at k vs e = rw (e, drop-drop (length vs) at l) (sym (append_assoc (take at l) vs (drop (at + length vs) l)))
