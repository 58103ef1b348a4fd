-- `programs::put_line_unchecked` meets its contract. Assumes nothing.
use native.Mathlib.Omega.{arith}
use Rattle.little_endian.proofs.Puts.{put_part}
use Rattle.programs.proofs.put_line_unchecked.Goals as goal

pub returns : goal.returns
returns c = rw c.copy_from_slice.ensures.after (omega arith, put_part _ _ _ _ (omega arith))
