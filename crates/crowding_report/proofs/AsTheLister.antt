-- A file is read as the lister reads it. Assumes nothing.
use borrow.Author.Tests.{ne_eqb}
use Rattle.atlas_file.specs.Steps.{most_places}
use Rattle.atlas_file.specs.Reading.{read_reply}
use Rattle.integrity.proofs.Cuts.{first_bytes_decide}
use Rattle.programs.specs.Listing.{listing_of}
use Rattle.crowding_report.specs.Crowding.{crowding_of}
use Rattle.crowding_report.specs.Laws.{RefusedAsListed, FirstBytesReported}

pub refused-as_listed : RefusedAsListed
unfolding crowding_of listing_of
refused-as_listed file n = rw (ne_eqb (read_reply file most_places).number 0 n)

pub first_bytes_reported : FirstBytesReported
unfolding crowding_of
first_bytes_reported file k h = cc (first_bytes_decide file most_places k h)
