-- Document 02, E2: lists of the places within reach of a tap, and the crowding report, on both sides of each rule.
use Rattle.std.specs.Prelude.{◌≡◌, [], ◌∷◌, pos, negsuc}
use Rattle.refusal.specs.declared.Refusal.TheVariants.{NoRoom, OutOfRange}
use Rattle.refusal.specs.Numbers.{accepted, refused}
use Rattle.reach.specs.Lists.{positions_in_reach}
use Rattle.within_reach.specs.Lists.{places_after, list_reply}
use Rattle.programs.specs.Listing.{listing_of}
use Rattle.crowding_report.specs.Crowding.{crowd_lines, crowding_of}
use Rattle.examples.specs.Files.{mill, mill_file}
use Rattle.examples.specs.Tables.{other, place_at, three_places}

-- 50 units from 0, 0 each: by id, then position; one unit short of the reach; one unit to the right, where one is farther than the reach; reach 0; the same place three times; a place as far from a tap as there is, which in signed 64 bits would be the nearest
abbrev pub ListedPositions : Type 0
ListedPositions =
    positions_in_reach three_places (pos 0) (pos 0) (pos 50)
    ∷ positions_in_reach three_places (pos 0) (pos 0) (pos 49)
    ∷ positions_in_reach three_places (pos 1) (pos 0) (pos 50)
    ∷ positions_in_reach three_places (pos 50) (pos 0) (pos 0)
    ∷ positions_in_reach (mill ∷ mill ∷ mill ∷ []) (pos 0) (pos 1000000) (pos 0)
    ∷ positions_in_reach (place_at 1 (negsuc 2147483647) (negsuc 2147483647) ∷ place_at 2 (pos 536870912) (pos 536870000) ∷ []) (pos 536870912) (pos 536870912) (pos 1048576)
    ∷ []
    ≡ (1 ∷ 2 ∷ 0 ∷ [])
    ∷ []
    ∷ (2 ∷ 0 ∷ [])
    ∷ (2 ∷ [])
    ∷ (0 ∷ 1 ∷ 2 ∷ [])
    ∷ (1 ∷ [])
    ∷ []

-- room for the list, and one entry less; an empty list without any room; the limits of the tap and of the reach, and one past each, where there is no room either
abbrev pub ListReplies : Type 0
ListReplies =
    list_reply three_places (pos 0) (pos 0) (pos 50) 3
    ∷ list_reply three_places (pos 0) (pos 0) (pos 50) 2
    ∷ list_reply three_places (pos 0) (pos 0) (pos 49) 0
    ∷ list_reply three_places (pos 536870912) (pos 0) (pos 50) 0
    ∷ list_reply three_places (pos 536870913) (pos 0) (pos 50) 0
    ∷ list_reply three_places (pos 0) (pos 0) (pos 1048576) 2
    ∷ list_reply three_places (pos 0) (pos 0) (pos 1048577) 2
    ∷ []
    ≡ accepted (pos 3 ∷ [])
    ∷ refused 1 NoRoom
    ∷ accepted (pos 0 ∷ [])
    ∷ accepted (pos 0 ∷ [])
    ∷ refused 1 OutOfRange
    ∷ refused 1 NoRoom
    ∷ refused 1 OutOfRange
    ∷ []

-- a table of three in which a list of two is stored; of one, which has no room for it; of one for an empty list
abbrev pub ListedTables : Type 0
ListedTables =
    places_after three_places (pos 1) (pos 0) (pos 50) (other ∷ other ∷ other ∷ [])
    ∷ places_after three_places (pos 1) (pos 0) (pos 50) (other ∷ [])
    ∷ places_after three_places (pos 0) (pos 0) (pos 49) (other ∷ [])
    ∷ []
    ≡ (place_at 5 (pos 50) (pos 0) ∷ place_at 9 (pos 30) (pos 40) ∷ other ∷ [])
    ∷ (other ∷ [])
    ∷ (other ∷ [])
    ∷ []

-- three places in a row, 50,000 units from one to the next, and one a unit north of the last: `7 1`, `8 2`, `9 2`, `300 1`, a newline after each
abbrev pub RowReported : Type 0
RowReported =
    crowd_lines (place_at 7 (pos 0) (pos 0) ∷ place_at 8 (pos 30000) (pos 40000) ∷ place_at 9 (pos 60000) (pos 80000) ∷ place_at 300 (pos 60000) (pos 80001) ∷ [])
    ≡ 55 ∷ 32 ∷ 49 ∷ 10
    ∷ 56 ∷ 32 ∷ 50 ∷ 10
    ∷ 57 ∷ 32 ∷ 50 ∷ 10
    ∷ 51 ∷ 48 ∷ 48 ∷ 32 ∷ 49 ∷ 10 ∷ []

-- three places on one spot: `7 2`, `8 2`, `9 2`; no places: nothing
abbrev pub SpotReported : Type 0
SpotReported =
    crowd_lines (place_at 7 (pos 5) (pos 5) ∷ place_at 8 (pos 5) (pos 5) ∷ place_at 9 (pos 5) (pos 5) ∷ [])
    ≡ 55 ∷ 32 ∷ 50 ∷ 10
    ∷ 56 ∷ 32 ∷ 50 ∷ 10
    ∷ 57 ∷ 32 ∷ 50 ∷ 10 ∷ []

abbrev pub NoPlacesReported : Type 0
NoPlacesReported = crowd_lines [] ≡ []

-- the file of case 11 gives `7 0`; an empty file gives what the lister prints
abbrev pub MillReported : Type 0
MillReported = crowding_of mill_file ≡ 55 ∷ 32 ∷ 48 ∷ 10 ∷ []

abbrev pub NothingReported : Type 0
NothingReported = crowding_of [] ≡ listing_of []
