-- Lines put into a buffer one behind the other. Assumes nothing.
use mathlib.Core.Path.{◌≡◌, refl, sym, ap, ◌∙◌}
use mathlib.Core.List.{List, [], ◌++◌}
use Prim.Native.Nat.{ℕ, ◌+◌, ◌-◌, ◌*◌, ◌≤◌, ◌<◌}
use native.Mathlib.Omega.{arith}
use lib.ListN.{length, drop, length-append}
use Rattle.little_endian.specs.Numbers.{put}
use Rattle.little_endian.proofs.Puts.{put_append, put_none}
use Rattle.text.specs.Lines.{line_size}
use Rattle.programs.specs.Listing.{Stands}

-- a text that stands at the start of a buffer ends within it
pub stands_within : (text before : List ℕ) {after : List ℕ} {end : ℕ} → Stands 0 text end before after → end ≤ length after
unfolding put
stands_within text before h = rw h.1 (omega (arith, h.0, length-append text (drop (0 + length text) before)))

-- the loop that puts a line at each of `count` turns, from `at` on; `left k` are the lines from turn k on
module _ (left : ℕ → List ℕ) (count at : ℕ) (before : List ℕ) where
  pub record PutSoFar (out : List ℕ) (to k : ℕ) : Type 0 where
    pub in_turn_lem : k ≤ count
    pub as_long : length out ≡ length before
    pub room : to + line_size * (count - k) ≤ length before
    pub ends : to + length (left k) ≡ at + length (left 0)
    pub holds : put out to (left k) ≡ put before at (left 0)

  pub none_put : at + line_size * count ≤ length before → PutSoFar before at 0
  none_put h = record { in_turn_lem = omega arith; as_long = refl; room = omega arith; ends = refl; holds = refl }

  module _ {out : List ℕ} {to k : ℕ} (p : PutSoFar out to k) where
    -- a turn puts its line, and the others are left
    pub one_put : (line out' : List ℕ) (end : ℕ) → k < count → left k ≡ line ++ left (k + 1) → length line ≤ line_size → length out' ≡ length out → Stands to line end out out' → PutSoFar out' end (k + 1)
    one_put line out' end h turn fits same s =
        let n = ap length turn ∙ length-append line (left (k + 1)) in
        let in_buffer : to + length line ≤ length out = omega arith in
        record {
          in_turn_lem = omega arith;
          as_long = same ∙ p.as_long;
          room = omega (arith, s.0);
          ends = omega (arith, s.0, p.ends);
          holds = rw (s.0, s.1) (sym (put_append out to line in_buffer (left (k + 1)))) ∙ rw turn at p.holds;
        }

    pub all_put : left k ≡ [] → Stands at (left 0) to before out
    all_put none = (let e = rw none at p.ends in omega arith, rw (none, put_none) at p.holds)
