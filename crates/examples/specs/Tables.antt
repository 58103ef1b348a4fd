-- The file of case 11 in a table and in a buffer, the place of case 12, and taps at the limits and at ties.
use Rattle.std.specs.Prelude.{ℕ, ◌≡◌, List, [], ◌∷◌, ◌++◌, replicate, ℤ, pos, negsuc}
use Rattle.refusal.specs.declared.Refusal.TheVariants.{OutOfRange, NothingInReach}
use Rattle.refusal.specs.Numbers.{Reply, accepted, refused}
use Rattle.sheet.specs.Samples.{sheet_a}
use Rattle.place.specs.declared.Place.{Place}
use Rattle.nearest.specs.Taps.{usual_reach, nearest_reply}
use Rattle.atlas.specs.Tables.{table_after}
use Rattle.atlas.specs.Buffers.{buffer_after}
use Rattle.examples.specs.Files.{mill, mill_file}

-- read into a table of two, the place is in its first entry, and the other is as it was
abbrev pub other : Place
other = record { «id» = 1; «latitude» = pos 2; «longitude» = pos 3; «x» = pos 4; «y» = pos 5; «name» = replicate 16 6 }

abbrev pub MillStored : Type 0
MillStored = table_after mill_file (other ∷ other ∷ []) ≡ mill ∷ other ∷ []

-- written into a buffer of 81 bytes, the file is in its first 79, and the others are as they were
abbrev pub MillWritten : Type 0
MillWritten = buffer_after sheet_a (mill ∷ []) (replicate 81 9) ≡ mill_file ++ (9 ∷ 9 ∷ [])

-- case 12: the place nearest to the tap 0, 1000000 is the one of the file
abbrev pub MillNearest : Type 0
MillNearest = nearest_reply (mill ∷ []) (pos 0) (pos 1000000) usual_reach ≡ accepted (pos 0 ∷ [])

-- a place with an id, somewhere on the map
abbrev pub place_at : (id : ℕ) (x y : ℤ) → Place
place_at id x y = record { «id» = id; «latitude» = pos 0; «longitude» = pos 0; «x» = x; «y» = y; «name» = replicate 16 0 }

abbrev pub found_at : (position : ℕ) → Reply
found_at k = accepted (pos k ∷ [])

-- 50 units from 0, 0 each: the lowest id, then the earliest; one unit to the right, where another is nearest; one unit short of the reach; an empty table; the limits of the reach and of the tap, and one past each
abbrev pub three_places : List Place
three_places = place_at 9 (pos 30) (pos 40) ∷ place_at 5 (negsuc 29) (pos 40) ∷ place_at 5 (pos 50) (pos 0) ∷ []

abbrev pub TapReplies : Type 0
TapReplies =
    nearest_reply three_places (pos 0) (pos 0) (pos 50)
    ∷ nearest_reply three_places (pos 1) (pos 0) (pos 50)
    ∷ nearest_reply three_places (pos 0) (pos 0) (pos 49)
    ∷ nearest_reply [] (pos 0) (pos 0) (pos 1048576)
    ∷ nearest_reply three_places (pos 50) (pos 0) (pos 0)
    ∷ nearest_reply three_places (pos 0) (pos 0) (pos 1048576)
    ∷ nearest_reply three_places (pos 0) (pos 0) (pos 1048577)
    ∷ nearest_reply three_places (pos 0) (pos 0) (negsuc 0)
    ∷ nearest_reply three_places (pos 536870912) (pos 0) (pos 50)
    ∷ nearest_reply three_places (pos 536870913) (pos 0) (pos 50)
    ∷ nearest_reply three_places (pos 0) (negsuc 536870911) (pos 50)
    ∷ nearest_reply three_places (pos 0) (negsuc 536870912) (pos 50)
    ∷ []
    ≡ found_at 1
    ∷ found_at 2
    ∷ refused 1 NothingInReach
    ∷ refused 1 NothingInReach
    ∷ found_at 2
    ∷ found_at 1
    ∷ refused 1 OutOfRange
    ∷ refused 1 OutOfRange
    ∷ refused 1 NothingInReach
    ∷ refused 1 OutOfRange
    ∷ refused 1 NothingInReach
    ∷ refused 1 OutOfRange
    ∷ []

-- a place as far from a tap as there is: the squared distance, in signed 64 bits, would be below 0
abbrev pub FarIsNotNear : Type 0
FarIsNotNear =
    nearest_reply (place_at 1 (negsuc 2147483647) (negsuc 2147483647) ∷ place_at 2 (pos 536870912) (pos 536870000) ∷ []) (pos 536870912) (pos 536870912) (pos 1048576)
    ≡ found_at 1
