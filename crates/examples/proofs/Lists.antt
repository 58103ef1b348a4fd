-- Lists and the crowding report: by computation, of a file behind what reading gives. Assumes nothing.
use mathlib.Core.Bool.{cond}
use mathlib.Core.List.{List}
use mathlib.Core.Path.{refl, ap}
use Prim.Native.Nat.{ℕ}
use native.Mathlib.Omega.{arith}
use lib.Dec.{eqb}
use Rattle.nearest.specs.Taps.{squared, squared_distance, is_before, within_reach_from, within_reach}
use Rattle.reach.specs.Lists.{insert_into, sort_onto, sorted_in_reach}
use Rattle.within_reach.specs.Lists.{listed_after, places_after, list_reply}
use Rattle.atlas_file.specs.Steps.{most_places, step_of}
use Rattle.atlas_file.specs.Reading.{Reading, start_of, read_from, read_of}
use Rattle.text.specs.Decimals.{digits_up_to, decimal}
use Rattle.text.specs.Lines.{crowd_line, file_refused_line}
use Rattle.programs.specs.Listing.{listing_of}
use Rattle.crowding_report.specs.Crowding.{others_within, crowd_lines, crowding_of}
use Rattle.examples.specs.Lists.{ListedPositions, ListReplies, ListedTables, RowReported, SpotReported, NoPlacesReported, MillReported, NothingReported}
use Rattle.examples.proofs.Read.{mill-read_in}

pub listed_positions : ListedPositions
unfolding squared squared_distance is_before within_reach_from within_reach insert_into sort_onto sorted_in_reach
listed_positions = refl

pub list_replies : ListReplies
unfolding squared squared_distance is_before within_reach_from within_reach insert_into sort_onto sorted_in_reach list_reply
list_replies = refl

pub listed_tables : ListedTables
unfolding squared squared_distance is_before within_reach_from within_reach insert_into sort_onto sorted_in_reach listed_after places_after
listed_tables = refl

pub row_reported : RowReported
unfolding squared squared_distance within_reach_from within_reach others_within crowd_line digits_up_to decimal
row_reported = refl

pub spot_reported : SpotReported
unfolding squared squared_distance within_reach_from within_reach others_within crowd_line digits_up_to decimal
spot_reported = refl

pub no_places_reported : NoPlacesReported
no_places_reported = refl

-- what a file that is read gives to print
reported : Reading → List ℕ
reported r = cond (eqb r.reply.number 0) (crowd_lines r.places) (file_refused_line r.reply.number r.reply.offset)

pub mill-reported : MillReported
unfolding reported crowding_of squared squared_distance within_reach_from within_reach others_within crowd_line digits_up_to decimal
mill-reported = ap reported (mill-read_in most_places (omega arith))

pub nothing_reported : NothingReported
unfolding crowding_of listing_of file_refused_line digits_up_to decimal step_of start_of read_from read_of
nothing_reported = refl
