-- What holds of the order and of the nearest place. Each law is proved in proofs/, in the file that its comment names.
use Rattle.std.specs.Prelude.{Result, true, false, List, [], ◌∷◌, ◌⊎◌, ◌≡◌, ℕ, ◌≤◌, ◌<◌, ℤ, pos, get_or, length}
use Rattle.refusal.specs.declared.Refusal.{Refusal}
use Rattle.refusal.specs.declared.Refusal.TheVariants.{NothingInReach}
use Rattle.refusal.specs.Numbers.{accepted, refused}
use Rattle.place.specs.declared.Place.{Place}
use Rattle.place.specs.Places.{blank_place}
use Rattle.nearest.specs.declared.Candidate.{Candidate}
use Rattle.nearest.specs.Taps.{tap_in_range, squared, squared_distance, candidate_at, is_before, nearest_reply, nearest_reply_of}

-- two answers never share a number and values, so that the contract fixes the answer (Answers)
abbrev pub DistinctNearestReplies : Type 0
DistinctNearestReplies = (a b : Result ℕ Refusal) → nearest_reply_of a ≡ nearest_reply_of b → a ≡ b

-- is_before is a strict order: of two candidates not both are before the other, so none is before itself; it is transitive; and of two at different positions one is before the other (Order)
abbrev pub NotBothBefore : Type 0
NotBothBefore = (a b : Candidate) → is_before a b ≡ true → is_before b a ≡ false

abbrev pub BeforeTransitive : Type 0
BeforeTransitive = (a b c : Candidate) → is_before a b ≡ true → is_before b c ≡ true → is_before a c ≡ true

abbrev pub OneIsBefore : Type 0
OneIsBefore = (a b : Candidate) → (a.«position» ≡ b.«position» → ⊥) → (is_before a b ≡ true) ⊎ (is_before b a ≡ true)

-- the squared distance of the place at a position of a table, and that place as a candidate
abbrev pub squared_distance_at : List Place → (x y : ℤ) (k : ℕ) → ℕ
squared_distance_at t x y k = squared_distance x y (get_or t k blank_place)

abbrev pub candidate_of : List Place → (x y : ℤ) (k : ℕ) → Candidate
candidate_of t x y k = candidate_at x y (get_or t k blank_place) k

-- the place at k is the nearest: it is in the table, its squared distance is at most reach², and it is before every other place of the table
pub record IsNearest (t : List Place) (x y reach : ℤ) (k : ℕ) : Type 0 where
  pub in_table : k < length t
  pub in_reach : squared_distance_at t x y k ≤ squared reach
  pub least : (j : ℕ) → j < length t → (j ≡ k → ⊥) → is_before (candidate_of t x y k) (candidate_of t x y j) ≡ true

-- a position that comes back is that of the nearest place; and that of the nearest place comes back (NearestLaws)
abbrev pub NearestIsLeast : Type 0
NearestIsLeast = (t : List Place) (x y reach : ℤ) (k : ℕ) → nearest_reply t x y reach ≡ accepted (pos k ∷ []) → IsNearest t x y reach k

abbrev pub LeastIsNearest : Type 0
LeastIsNearest = (t : List Place) (x y reach : ℤ) (k : ℕ) → tap_in_range x y reach ≡ true → IsNearest t x y reach k → nearest_reply t x y reach ≡ accepted (pos k ∷ [])

-- for a tap in range 13 comes back exactly when no place has squared distance at most reach² (NearestLaws)
abbrev pub NoneInReach : List Place → (x y reach : ℤ) → Type 0
NoneInReach t x y reach = (k : ℕ) → k < length t → squared reach < squared_distance_at t x y k

abbrev pub RefusedNoneInReach : Type 0
RefusedNoneInReach = (t : List Place) (x y reach : ℤ) → nearest_reply t x y reach ≡ refused 1 NothingInReach → NoneInReach t x y reach

abbrev pub NoneInReachRefused : Type 0
NoneInReachRefused = (t : List Place) (x y reach : ℤ) → tap_in_range x y reach ≡ true → NoneInReach t x y reach → nearest_reply t x y reach ≡ refused 1 NothingInReach
