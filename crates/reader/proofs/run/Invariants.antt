-- `reader::run`: the reader has the file, and reading on from where it stands comes to what reading the file does. The measure is what is left of the file.
use Prim.Native.Nat.{◌-◌}
use lib.ListN.{length}
use Rattle.atlas_file.specs.Reading.{read_reply}
use Rattle.reader.proofs.Turns.{Stands}
use Rattle.reader.proofs.run.Given as goal

abbrev pub invariant-loop-advance : goal.invariant-loop-advance
invariant-loop-advance l = Stands l.bytes (read_reply l.bytes l.room) l.reader

abbrev pub decreases-loop-advance : goal.decreases-loop-advance
decreases-loop-advance l = length l.bytes - l.reader.«state».«at»
