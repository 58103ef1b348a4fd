-- How long the file is that the writer makes. Assumes nothing.
use mathlib.Core.Path.{◌≡◌, refl, ap, ◌∙◌}
use mathlib.Core.Bool.{true}
use mathlib.Core.List.{List, [], ◌∷◌}
use Prim.Native.Nat.{ℕ, ◌+◌, ◌*◌}
use native.Mathlib.Omega.{arith}
use lib.ListN.{length, length-append, length-replicate}
use Rattle.refusal.specs.Rules.{all_hold}
use Rattle.refusal.proofs.InOrder.{both_hold}
use Rattle.sheet.specs.declared.Sheet.{Sheet}
use Rattle.place.specs.declared.Place.{Place}
use Rattle.place.specs.Places.{place_rules}
use Rattle.place.specs.Laws.{IsName}
use Rattle.place.proofs.GoodPlaces.{has_name}
use Rattle.records.specs.Records.{place_record, end_record}
use Rattle.records.proofs.PlaceRecords.{place-kind, place-length, end_kind, end_length}
use Rattle.atlas_file.specs.Writing.{place_records, file_of, places_rules}
use Rattle.integrity.specs.Integrity.{WrittenLength}
use Rattle.integrity.proofs.Accepted.{list_parts}

name-length : {bs : List ℕ} → IsName bs → length bs ≡ 16
name-length n = ap length n.filled ∙ simp (length-append, length-replicate) (omega (arith, n.most))

records_length : (s : Sheet) (count last : ℕ) (ps : List Place) → all_hold (places_rules s count last ps) ≡ true → length (place_records ps) ≡ 37 * length ps
unfolding place_records places_rules
records_length s count last [] e = refl
records_length s count last (p ∷ ps) e =
    let both = both_hold (place_rules s count last p) (places_rules s (count + 1) p.«id» ps) e in
    let one = place-length (place_record p) (place-kind p (name-length (has_name s count last p both.0))) in
    rw length-append (omega (arith, one, records_length s (count + 1) p.«id» ps both.1))

pub written_length : WrittenLength
unfolding file_of
written_length s ps e =
    simp length-append (omega (arith, records_length s 0 0 ps (list_parts s ps e).2, end_length (end_record (length ps)) (end_kind (length ps))))
