-- `atlas::place_of_unchecked` meets its contract: the file is long enough, and the record that stands there is the place's. Assumes nothing.
use mathlib.Core.Path.{◌≡◌, ◌∙◌}
use mathlib.Core.List.{List}
use Prim.Native.Nat.{ℕ, ◌+◌, ◌-◌, ◌*◌}
use native.Mathlib.Omega.{arith}
use lib.ListN.{get_or, take, drop}
use Rattle.place.specs.Places.{blank_place}
use Rattle.records.specs.declared.Record.TheVariants as records
use Rattle.records.specs.Records.{IsRecord, place_of}
use Rattle.atlas_file.specs.Steps.{most_places}
use Rattle.atlas_file.specs.Reading.{places_read}
use Rattle.atlas.proofs.FilePlaces.{accepted-length, accepted-place}
use Rattle.atlas.proofs.place_of_unchecked.Goals as goal
use Rattle.atlas.proofs.place_of_unchecked.Goals.{Start}

abbrev part : Start → List ℕ
part s = let at = s.args.first + 37 * s.args.position in take (at + 37 - at) (drop at s.args.bytes.now)

stands : (s : Start) → IsRecord records.Place (part s) × (place_of (part s) ≡ get_or (places_read s.args.bytes.now most_places) s.args.position blank_place)
stands s =
    let at = s.args.first + 37 * s.args.position in
    let n : at + 37 - at ≡ 37 = omega arith in
    rw n (accepted-place s.requires.accepted_file s.args.position s.requires.position_bound)

pub overflow_mul-at : goal.overflow_mul-at
overflow_mul-at c = omega (arith, accepted-length c.requires.accepted_file)

pub overflow_add-at : goal.overflow_add-at
overflow_add-at c = omega (arith, accepted-length c.requires.accepted_file)

pub overflow_add-end : goal.overflow_add-end
overflow_add-end c = omega (arith, accepted-length c.requires.accepted_file)

pub slice_bounds-decode_place_unchecked-end : goal.slice_bounds-decode_place_unchecked-end
slice_bounds-decode_place_unchecked-end c = omega (arith, accepted-length c.requires.accepted_file)

pub decode_place_unchecked-requires : goal.decode_place_unchecked-requires
decode_place_unchecked-requires c = let s = (goal.at.decode_place_unchecked-requires c).Start in (stands s).0

pub returns : goal.returns
returns c = let s = (goal.at.returns c).Start in c.decode_place_unchecked.ensures ∙ (stands s).1
