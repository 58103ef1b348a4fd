-- The first bytes of a file are enough for what is printed. Assumes nothing.
use Rattle.atlas_file.specs.Steps.{most_places}
use Rattle.integrity.proofs.Cuts.{first_bytes_decide}
use Rattle.programs.specs.Listing.{listing_of}
use Rattle.programs.specs.Tapping.{tap_output}
use Rattle.programs.specs.Laws.{FirstBytesListed, FirstBytesTapped}

pub first_bytes_listed : FirstBytesListed
unfolding listing_of
first_bytes_listed file k h = cc (first_bytes_decide file most_places k h)

pub first_bytes_tapped : FirstBytesTapped
unfolding tap_output
first_bytes_tapped file input k h = cc (first_bytes_decide file most_places k h)
