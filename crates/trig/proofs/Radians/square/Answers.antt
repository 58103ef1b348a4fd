-- `trig::Radians::square` meets its contract. Assumes nothing.
use Rattle.arith.proofs.Fits.{ranges, plain}
use Rattle.trig.specs.Trig.{square_of}
use Rattle.trig.proofs.Radians.square.Goals as goal

pub returns : goal.returns
unfolding square_of
returns c = plain (search ranges depth 9) tt
