-- `atlas_file::reading::read_through`: reading on from the state comes to what reading the file does, and the measure is what is left of the file.
use Prim.Native.Nat.{◌-◌}
use lib.ListN.{length}
use Rattle.atlas_file.specs.Reading.{read_reply}
use Rattle.atlas_file.proofs.ReadsOn.{ReadsOn}
use Rattle.atlas_file.proofs.reading.read_through.Given as goal

abbrev pub invariant-loop-advance : goal.invariant-loop-advance
invariant-loop-advance l = ReadsOn l.bytes (read_reply l.bytes l.room) l.state

abbrev pub decreases-loop-advance : goal.decreases-loop-advance
decreases-loop-advance l = length l.bytes - l.state.«at»
