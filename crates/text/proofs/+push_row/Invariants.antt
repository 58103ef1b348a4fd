-- Each call writes a word.
use Rattle.std.proofs.Common.{length}
use Rattle.text.proofs.+push_row.Given as goal

abbrev pub decreases-push_row : goal.decreases-push_row
decreases-push_row l = length l.words.now
