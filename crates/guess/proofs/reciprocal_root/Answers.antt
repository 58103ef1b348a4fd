use Rattle.std.proofs.Common.{arith}
use Rattle.guess.proofs.NotNan.{small_not_nan}
use Rattle.guess.proofs.reciprocal_root.Goals as goal

pub float_from_bits-start : goal.float_from_bits-start
float_from_bits-start c = small_not_nan _ (omega arith)
