-- Document 01, 'Taps'.
use Rattle.std.specs.Prelude.{Option, None, Some, Result, Bool, true, cond, ◌&&◌, ◌||◌, List, [], ◌∷◌, ℕ, suc, ◌+◌, leb, ltb, eqb, ℤ, pos, nat_abs, ◌-ℤ◌, ◌*ℤ◌}
use Rattle.arith.specs.Bounds.{is_within, size_up_to}
use Rattle.refusal.specs.declared.Refusal.TheVariants.{OutOfRange, NothingInReach}
use Rattle.refusal.specs.declared.Refusal.{Refusal}
use Rattle.refusal.specs.Numbers.{Reply, accepted, refused, reply_by}
use Rattle.refusal.specs.Rules.{Rule, ◌else-refuse◌, in_order}
use Rattle.place.specs.declared.Place.{Place}
use Rattle.nearest.specs.declared.Candidate.{Candidate}

-- 12 if a tap coordinate passes 536,870,912 in size or the reach is not 0 to 1,048,576.
abbrev pub tap_limit : ℕ
tap_limit = 536870912

abbrev pub reach_limit : ℕ
reach_limit = 1048576

abbrev pub tap_in_range : (x y reach : ℤ) → Bool
tap_in_range x y reach = size_up_to tap_limit x && size_up_to tap_limit y && is_within (pos 0) (pos reach_limit) reach

abbrev pub tap_rules : (x y reach : ℤ) → List Rule
tap_rules x y reach = (tap_in_range x y reach else-refuse OutOfRange) ∷ []

-- Else the table position, counted from 0, of the place of least squared distance, then lowest id, then earliest in the table
unfoldable pub squared : ℤ → ℕ
squared z = nat_abs (z *ℤ z)

unfoldable pub squared_distance : (x y : ℤ) → Place → ℕ
squared_distance x y p = squared (p.«x» -ℤ x) + squared (p.«y» -ℤ y)

-- a place by what the order compares
abbrev pub candidate_at : (x y : ℤ) → Place → (position : ℕ) → Candidate
candidate_at x y p k = record { squared_distance = squared_distance x y p; «id» = p.«id»; «position» = k }

-- m is less than n; where they are equal, `rest` decides
abbrev pub less_or : (m n : ℕ) (rest : Bool) → Bool
less_or m n rest = ltb m n || (eqb m n && rest)

-- the order: least squared distance, then lowest id, then earliest in the table
unfoldable pub is_before : Candidate → Candidate → Bool
is_before a b = less_or a.squared_distance b.squared_distance (less_or a.«id» b.«id» (ltb a.«position» b.«position»))

-- the first of candidates by the order; `None` before any is looked at, else the first so far
unfoldable pub better : Option Candidate → Candidate → Option Candidate
better None c = Some c
better (Some b) c = cond (is_before c b) (Some c) (Some b)

unfoldable pub best_of : Option Candidate → List Candidate → Option Candidate
best_of b [] = b
best_of b (c ∷ cs) = best_of (better b c) cs

-- within reach: squared distance at most reach²
abbrev pub is_within_reach : (x y : ℤ) (squared_reach : ℕ) → Place → Bool
is_within_reach x y squared_reach p = leb (squared_distance x y p) squared_reach

-- whether a candidate comes before the best so far
abbrev pub is_first : Option Candidate → Candidate → Bool
is_first None c = true
is_first (Some b) c = is_before c b

-- and is within reach
unfoldable pub is_better : Option Candidate → Candidate → (squared_reach : ℕ) → Bool
is_better best c squared_reach = leb c.squared_distance squared_reach && is_first best c

-- the places of a table that are within reach; its first has the position k
unfoldable pub within_reach_from : (k : ℕ) → List Place → (x y : ℤ) (squared_reach : ℕ) → List Candidate
within_reach_from k [] x y squared_reach = []
within_reach_from k (p ∷ ps) x y squared_reach =
    let rest = within_reach_from (suc k) ps x y squared_reach in
    cond (is_within_reach x y squared_reach p) (candidate_at x y p k ∷ rest) rest

unfoldable pub within_reach : List Place → (x y reach : ℤ) → List Candidate
within_reach t x y reach = within_reach_from 0 t x y (squared reach)

-- the position of the best; 13 exactly when no place has squared distance at most reach² (Laws: RefusedNoneInReach, NoneInReachRefused)
abbrev pub best_reply : Option Candidate → Reply
best_reply None = refused 1 NothingInReach
best_reply (Some c) = accepted (pos c.«position» ∷ [])

-- what a tap comes to: 12, else 13 or the position of the best of the places within reach
unfoldable pub nearest_reply : List Place → (x y reach : ℤ) → Reply
nearest_reply t x y reach = in_order 1 (tap_rules x y reach) (best_reply (best_of None (within_reach t x y reach)))

-- Place x, y may be any signed 32-bit numbers: the difference of one and a tap coordinate is of size up to 2^31 + 2^29
abbrev pub difference_limit : ℕ
difference_limit = 2684354560

-- A tap without a reach uses the usual reach, 50,000.
abbrev pub usual_reach : ℤ
usual_reach = pos 50000

-- the number and the values that an answer stands for
abbrev pub nearest_reply_of : Result ℕ Refusal → Reply
nearest_reply_of = reply_by 1 (λ position. pos position ∷ [])
