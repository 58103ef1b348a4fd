-- Two answers of a lookup never share a reply. Assumes nothing.
use mathlib.Core.Path.{◌≡◌, sym, ap}
use Rattle.std.specs.Prelude.{Ok, Err}
use Rattle.refusal.proofs.Distinct.{distinct_numbers, no_number_zero}
use Rattle.lookup.specs.Lookups.{LookupReply}
use Rattle.lookup.specs.Laws.{DistinctLookupReplies}

number-of : {p q : LookupReply} → p ≡ q → p.number ≡ q.number
number-of = ap (λ (x : LookupReply). x.number)

pub distinct_lookup_replies : DistinctLookupReplies
distinct_lookup_replies (Ok f) (Ok g) e = λ i. Ok (record { «position» = (e i).position; «place» = (e i).place })
distinct_lookup_replies (Ok f) (Err why) e = absurd (no_number_zero why.«refusal» (sym (number-of e)))
distinct_lookup_replies (Err why) (Ok g) e = absurd (no_number_zero why.«refusal» (number-of e))
distinct_lookup_replies (Err why) (Err reason) e =
    λ i. Err (record { «refusal» = distinct_numbers why.«refusal» reason.«refusal» (number-of e) i; «offset» = (e i).offset })
