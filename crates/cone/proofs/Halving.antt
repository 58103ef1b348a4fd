-- The halving is the document's loop, and keeps a map point between lo and hi. Assumes nothing.
use mathlib.Core.Path.{◌≡◌, refl, sym, ap, subst, ◌∙◌}
use mathlib.Core.Bool.{true, false, cond}
use mathlib.Core.Logic.{◌⊎◌, inl, inr, ⊎_elim}
use Prim.Native.Nat.{ℕ, zero, suc}
use lib.Dec.{lit<}
use lib.IntN.{ℤ, pos, nat_abs, ◌+ℤ◌, ◌-ℤ◌, ◌*ℤ◌}
use lib.Signed.{lt_z, quot_z, ◌≤ℤ◌, ◌<ℤ◌, ≤ℤ_refl}
use Rattle.arith.proofs.Choose.{choose, as_choice}
use Rattle.arith.proofs.Parts.{linear, add_parts, sub_parts, mul_parts}
use Rattle.arith.proofs.Order.{true_lt, false_lt, true_le, le_false, <ℤ→≤ℤ, <ℤ-total, abs_parts}
use Rattle.arith.proofs.Quot.{quot-nonneg}
use Rattle.cone.specs.Cone.{sine_at, cosine_at, not_left, not_right, middle, halved, last_lo}
use Rattle.cone.specs.Laws.{LastLoEnds, LastLoGoesOn, LastLoBetween}

-- while hi - lo > 1, mid lies strictly between them
pub middle-between : (lo hi : ℤ) → pos 1 <ℤ (hi -ℤ lo) → (lo <ℤ middle lo hi) × (middle lo hi <ℤ hi)
middle-between lo hi h =
    let q = quot_z (hi -ℤ lo) (pos 2) in
    let b = quot-nonneg 2 (lit< tt) (hi -ℤ lo) (omega linear) in
    omega (linear, b, sub_parts hi lo, mul_parts 2 q, add_parts (pos 2 *ℤ q) (pos 2), add_parts lo q)

-- so either half is shorter by one at least
halves : (k : ℕ) (lo hi : ℤ) → pos 1 <ℤ (hi -ℤ lo) → (hi -ℤ lo) ≤ℤ pos (suc k) → ((hi -ℤ middle lo hi) ≤ℤ pos k) × ((middle lo hi -ℤ lo) ≤ℤ pos k)
halves k lo hi h a = let mid = middle lo hi in omega (linear, middle-between lo hi h, sub_parts hi lo, sub_parts hi mid, sub_parts mid lo)

module _ (n x v : ℤ) where
  turn : (k : ℕ) (lo hi : ℤ) → let mid = middle lo hi in
      halved (suc k) n x v lo hi ≡ cond (lt_z (pos 1) (hi -ℤ lo)) (cond (not_left n x v mid) (halved k n x v mid hi) (halved k n x v lo mid)) lo
  unfolding halved
  turn k lo hi = let apart = lt_z (pos 1) (hi -ℤ lo) in as_choice apart _ lo ∙ ap (λ z. cond apart z lo) (as_choice (not_left n x v (middle lo hi)) _ _)

  ends : (k : ℕ) (lo hi : ℤ) → (hi -ℤ lo) ≤ℤ pos 1 → halved k n x v lo hi ≡ lo
  unfolding halved
  ends zero lo hi h = refl
  ends (suc k) lo hi h = rw (turn k lo hi, false_lt h)

  -- hi - lo turns are enough, and more are not used
  same_turns : (j k : ℕ) (lo hi : ℤ) → (hi -ℤ lo) ≤ℤ pos j → (hi -ℤ lo) ≤ℤ pos k → halved j n x v lo hi ≡ halved k n x v lo hi
  same_turns zero k lo hi a b = ends zero lo hi (omega linear) ∙ sym (ends k lo hi (omega linear))
  same_turns (suc j) zero lo hi a b = ends (suc j) lo hi (omega linear) ∙ sym (ends zero lo hi (omega linear))
  same_turns (suc j) (suc k) lo hi a b =
      let mid = middle lo hi in
      ⊎_elim
      (λ h.
      let p = halves j lo hi h a in
      let q = halves k lo hi h b in
      rw (turn j lo hi, turn k lo hi, same_turns j k mid hi p.0 q.0, same_turns j k lo mid p.1 q.1))
      (λ h. ends (suc j) lo hi h ∙ sym (ends (suc k) lo hi h))
      (<ℤ-total (pos 1) (hi -ℤ lo))

  enough : (k : ℕ) (lo hi : ℤ) → (hi -ℤ lo) ≤ℤ pos k → last_lo n x v lo hi ≡ halved k n x v lo hi
  unfolding last_lo
  enough k lo hi h = same_turns (nat_abs (hi -ℤ lo)) k lo hi (omega (linear, abs_parts (hi -ℤ lo))) h

pub last_lo-ends : LastLoEnds
unfolding last_lo
last_lo-ends n x v lo hi h = ends n x v (nat_abs (hi -ℤ lo)) lo hi h

pub last_lo-goes_on : LastLoGoesOn
last_lo-goes_on n x v lo hi h =
    let mid = middle lo hi in
    let k = nat_abs (hi -ℤ lo) in
    let a : (hi -ℤ lo) ≤ℤ pos (suc k) = omega (linear, abs_parts (hi -ℤ lo)) in
    let p = halves k lo hi h a in
    rw (enough n x v (suc k) lo hi a, turn n x v k lo hi, true_lt h, enough n x v k mid hi p.0, enough n x v k lo mid p.1)

-- ---- the last lo between lo and hi, whatever holds at lo and hi

module _ (n x v : ℤ) where
  pub record IsLast (lo hi d : ℤ) : Type 0 where
    pub low : lo ≤ℤ d
    pub high : d <ℤ hi
    pub here : (d ≡ lo) ⊎ (not_left n x v d ≡ true)
    pub next : (d +ℤ pos 1 ≡ hi) ⊎ (not_left n x v (d +ℤ pos 1) ≡ false)

  pub from_mid : (lo mid hi d : ℤ) → lo ≤ℤ mid → not_left n x v mid ≡ true → IsLast mid hi d → IsLast lo hi d
  from_mid lo mid hi d h e c = record {
    low = let l = c.low in omega linear;
    high = c.high;
    here = ⊎_elim (λ (s : d ≡ mid). inr (subst (λ z. not_left n x v z ≡ true) (sym s) e)) (λ (s : not_left n x v d ≡ true). inr s) c.here;
    next = c.next;
  }

  pub to_mid : (lo mid hi d : ℤ) → mid ≤ℤ hi → not_left n x v mid ≡ false → IsLast lo mid d → IsLast lo hi d
  to_mid lo mid hi d h e c = record {
    low = c.low;
    high = let l = c.high in omega linear;
    here = c.here;
    next = ⊎_elim (λ (s : d +ℤ pos 1 ≡ mid). inr (subst (λ z. not_left n x v z ≡ false) (sym s) e)) (λ (s : not_left n x v (d +ℤ pos 1) ≡ false). inr s) c.next;
  }

  last_by : (k : ℕ) (lo hi : ℤ) → (hi -ℤ lo) ≤ℤ pos k → lo <ℤ hi → IsLast lo hi (last_lo n x v lo hi)
  last_by zero lo hi a o = absurd (omega (linear, sub_parts hi lo))
  last_by (suc k) lo hi a o = ⊎_elim
      (λ h.
      let mid = middle lo hi in
      let m = middle-between lo hi h in
      rw (last_lo-goes_on n x v lo hi h) (choose (IsLast lo hi) (not_left n x v mid) _ _
      (λ e. from_mid lo mid hi _ (<ℤ→≤ℤ m.0) e (last_by k mid hi (omega (linear, m, sub_parts hi lo, sub_parts hi mid)) m.1))
      (λ e. to_mid lo mid hi _ (<ℤ→≤ℤ m.1) e (last_by k lo mid (omega (linear, m, sub_parts hi lo, sub_parts mid lo)) m.0))))
      (λ h.
      let next : lo +ℤ pos 1 ≡ hi = omega (linear, sub_parts hi lo, add_parts lo (pos 1)) in
      rw (last_lo-ends n x v lo hi h) (record { low = ≤ℤ_refl lo; high = o; here = inl refl; next = inl next }))
      (<ℤ-total (pos 1) (hi -ℤ lo))

  pub is_last : (lo hi : ℤ) → lo <ℤ hi → IsLast lo hi (last_lo n x v lo hi)
  is_last lo hi = last_by (nat_abs (hi -ℤ lo)) lo hi (omega (linear, abs_parts (hi -ℤ lo)))

  -- a point left of d does not lie right of it
  left_or_right : (d : ℤ) → not_left n x v d ≡ false → not_right n x v d ≡ true
  unfolding not_left not_right
  left_or_right d e = true_le (<ℤ→≤ℤ (le_false {a = v *ℤ sine_at n d} {b = x *ℤ cosine_at n d} e))

pub last_lo-between : LastLoBetween
last_lo-between n x v lo hi o l r =
    let c = is_last n x v lo hi o in (
      c.low,
      c.high,
      ⊎_elim (λ e. subst (λ d. not_left n x v d ≡ true) (sym e) l) (λ e. e) c.here,
      ⊎_elim (λ e. subst (λ d. not_right n x v d ≡ true) (sym e) r) (λ e. left_or_right n x v _ e) c.next,
    )
