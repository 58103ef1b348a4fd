-- Two answers never share a reply, and what is lent holds afterwards. Assumes nothing.
use mathlib.Core.Bool.{Bool, true, false, cond}
use mathlib.Core.List.{List, ◌++◌}
use mathlib.Core.Path.{◌≡◌, refl, sym, ap, ◌∙◌}
use Prim.Native.Nat.{ℕ}
use borrow.Author.Tests.{eqb-false}
use lib.Dec.{eqb}
use lib.IntN.{ℤ}
use lib.ListN.{length, drop}
use Rattle.refusal.specs.Numbers.{number_of, Reply, refused}
use Rattle.refusal.specs.Rules.{Rule, all_hold}
use Rattle.refusal.proofs.Distinct.{distinct_numbers, no_number_zero, same_values}
use Rattle.refusal.proofs.InOrder.{by_outcome, all_hold-good, accepted-all_hold, refused-bad}
use Rattle.place.specs.declared.Place.{Place}
use Rattle.reach.specs.Lists.{positions_in_reach}
use Rattle.within_reach.specs.Lists.{in_reach_rules, listed_after, list_reply_of}
use Rattle.atlas_file.specs.Steps.{most_places}
use Rattle.atlas_file.specs.Reading.{read_reply, places_read}
use Rattle.std.specs.Prelude.{Result, Ok, Err}
use Rattle.refusal.specs.declared.Refusal.{Refusal}
use Rattle.atlas_file.specs.declared.reading.FileRefusal.{FileRefusal}
use Rattle.lookup_all.specs.Positions.{PositionsReply, listed_reply, refused_reply, positions_reply_of, positions_among, positions_list_reply, positions_reply, positions_after}
use Rattle.lookup_all.specs.Laws.{DistinctPositionsReplies, ListedThenBefore, RefusedUntouched}

number-of : {p q : PositionsReply} → p ≡ q → p.number ≡ q.number
number-of = ap (λ (x : PositionsReply). x.number)

pub distinct_positions_replies : DistinctPositionsReplies
distinct_positions_replies (Ok j) (Ok k) e = λ i. Ok (e i).count
distinct_positions_replies (Ok j) (Err r) e = absurd (no_number_zero r.refusal (sym (number-of e)))
distinct_positions_replies (Err r) (Ok k) e = absurd (no_number_zero r.refusal (number-of e))
distinct_positions_replies (Err r) (Err s) e = λ i. Err (record { refusal = distinct_numbers r.refusal s.refusal (number-of e) i; offset = (e i).offset })

-- by the places of an accepted file
module _ (ps : List Place) (before : List ℕ) (x y reach : ℤ) where
  abbrev list : List ℕ
  list = positions_in_reach ps x y reach

  abbrev rules : List Rule
  rules = in_reach_rules list x y reach (length before)

  among_listed : (positions_among ps x y reach (length before)).number ≡ 0 → listed_after list x y reach before ≡ list ++ drop (length list) before
  unfolding positions_among listed_after
  among_listed n =
      all_hold-good (List ℕ) rules _ (λ why. before)
      (by_outcome PositionsReply (λ r. r.number ≡ 0 → all_hold rules ≡ true) rules _ (λ why. refused_reply (number_of why) 0) (λ h _. h) (λ r e. absurd (no_number_zero r e)) n)

  among_untouched : ((positions_among ps x y reach (length before)).number ≡ 0 → ⊥) → listed_after list x y reach before ≡ before
  unfolding positions_among listed_after
  among_untouched n =
      by_outcome (List ℕ) (λ l. l ≡ before) rules _ (λ why. before) (λ h. absurd (n (number-of (all_hold-good PositionsReply rules _ (λ why. refused_reply (number_of why) 0) h)))) (λ r. refl)

module _ (file before : List ℕ) (x y reach : ℤ) where
  abbrev ps : List Place
  ps = places_read file most_places

  abbrev reply_by : Bool → PositionsReply
  reply_by s = cond s (positions_among ps x y reach (length before)) (refused_reply (read_reply file most_places).number (read_reply file most_places).offset)

  abbrev after_by : Bool → List ℕ
  after_by s = cond s (listed_after (positions_in_reach ps x y reach) x y reach before) before

  listed_by : (s : Bool) → eqb (read_reply file most_places).number 0 ≡ s → (reply_by s).number ≡ 0 → after_by s ≡ list ps before x y reach ++ drop (length (list ps before x y reach)) before
  listed_by true e n = among_listed ps before x y reach n
  listed_by false e n = absurd (eqb-false _ _ e n)

  untouched_by : (s : Bool) → ((reply_by s).number ≡ 0 → ⊥) → after_by s ≡ before
  untouched_by true n = among_untouched ps before x y reach n
  untouched_by false n = refl

pub listed_then_before : ListedThenBefore
unfolding positions_reply positions_after
listed_then_before file before x y reach = listed_by file before x y reach (eqb (read_reply file most_places).number 0) refl

pub refused-untouched : RefusedUntouched
unfolding positions_reply positions_after
refused-untouched file before x y reach = untouched_by file before x y reach (eqb (read_reply file most_places).number 0)

-- what a list comes to, where a refusal is given an offset
abbrev pub beside_the_file : Result ℕ Refusal → Result ℕ FileRefusal
beside_the_file (Ok n) = Ok n
beside_the_file (Err r) = Err (record { refusal = r; offset = 0 })

pub among_is : (ps : List Place) (x y reach : ℤ) (room : ℕ) (r : Result ℕ Refusal) → list_reply_of r ≡ positions_list_reply ps x y reach room →
    positions_reply_of (beside_the_file r) ≡ positions_among ps x y reach room
unfolding positions_list_reply positions_among
among_is ps x y reach room (Ok n) e =
    let rules = in_reach_rules (positions_in_reach ps x y reach) x y reach room in
    let all = accepted-all_hold 1 rules _ _ e in
    let same = same_values _ _ (e ∙ all_hold-good Reply rules _ (refused 1) all) in
    let count : n ≡ length (positions_in_reach ps x y reach) = cc in
    ap listed_reply count ∙ sym (all_hold-good PositionsReply rules _ (λ why. refused_reply (number_of why) 0) all)
among_is ps x y reach room (Err r) e =
    sym (refused-bad PositionsReply 1 (in_reach_rules (positions_in_reach ps x y reach) x y reach room) _ _ (λ why. refused_reply (number_of why) 0) r e)
