-- The best so far with the places from the index on comes to the best of all.
use mathlib.Core.Path.{◌≡◌}
use lib.ListN.{drop}
use Rattle.std.specs.Prelude.{None}
use Rattle.nearest.specs.Taps.{within_reach_from, best_of}
use Rattle.nearest.proofs.Tap.best_of.Given as goal

abbrev pub invariant-loop-position : goal.invariant-loop-position
invariant-loop-position l =
    best_of l.best (within_reach_from l.position (drop l.position l.table) l.self.x l.self.y l.self.squared_reach)
    ≡ best_of None (within_reach_from 0 l.table l.self.x l.self.y l.self.squared_reach)
