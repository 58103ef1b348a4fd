-- `atlas_file::content_step` meets its contract. Assumes nothing.
use Rattle.atlas_file.proofs.Views.{place-due}
use Rattle.atlas_file.proofs.content_step.Goals as goal

pub place_step-requires-clause-count_lt_most_places : goal.place_step-requires-clause-count_lt_most_places
place_step-requires-clause-count_lt_most_places c = (place-due c.args.state (rw c.in-Place.is at c.requires.state_value)).1
