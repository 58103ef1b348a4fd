use Rattle.std.proofs.Common.{arith}
use Rattle.guess.proofs.NotNan.{small_not_nan}
use Rattle.guess.proofs.float.Goals as goal

pub float_from_bits-result : goal.float_from_bits-result
float_from_bits-result c = small_not_nan _ (omega arith)
