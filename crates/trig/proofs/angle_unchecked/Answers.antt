-- `trig::angle_unchecked` meets its contract. Assumes nothing.
use Rattle.arith.proofs.Fits.{ranges, plain}
use Rattle.trig.specs.Trig.{angle_of}
use Rattle.trig.proofs.angle_unchecked.Goals as goal

pub returns : goal.returns
unfolding angle_of
returns c = plain (search ranges depth 9) tt
