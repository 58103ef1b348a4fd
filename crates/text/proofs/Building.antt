-- What a line holds. Assumes nothing.
use mathlib.Core.Path.{ap}
use native.Mathlib.Omega.{arith}
use lib.ListN.{length}
use Rattle.text.specs.Laws.{HeldText, HeldWithin}

pub held_text : HeldText
held_text l t h = h.1

pub held_within : HeldWithin
held_within l t h = omega (arith, ap length h.1, h.0)
