-- Two answers never share a reply, and what the table holds afterwards. Assumes nothing.
use mathlib.Core.List.{List}
use mathlib.Core.Path.{◌≡◌, refl, ap}
use lib.ListN.{length}
use Rattle.refusal.specs.Numbers.{Reply, refused}
use Rattle.refusal.proofs.Distinct.{distinct_results}
use Rattle.refusal.proofs.InOrder.{by_outcome, all_hold-good, not_refused_all_hold}
use Rattle.place.specs.declared.Place.{Place}
use Rattle.reach.specs.Lists.{places_in_reach}
use Rattle.within_reach.specs.Lists.{in_reach_rules, listed_after, places_after, list_reply}
use Rattle.within_reach.specs.Laws.{DistinctListReplies, ListedThenBefore, RefusedUntouched}

pub distinct_list_replies : DistinctListReplies
distinct_list_replies = distinct_results 1 _ (λ j k e. cc)

pub listed_then_before : ListedThenBefore
unfolding list_reply places_after listed_after
listed_then_before t before x y reach n =
    let rules = in_reach_rules (places_in_reach t x y reach) x y reach (length before) in
    all_hold-good (List Place) rules _ (λ why. before) (not_refused_all_hold 1 rules _ n)

pub refused-untouched : RefusedUntouched
unfolding list_reply places_after listed_after
refused-untouched t before x y reach n =
    let rules = in_reach_rules (places_in_reach t x y reach) x y reach (length before) in
    by_outcome (List Place) (λ l. l ≡ before) rules _ (λ why. before) (λ h. absurd (n (ap (λ (X : Reply). X.number) (all_hold-good Reply rules _ (refused 1) h)))) (λ r. refl)
