-- `test_interface::store_state` meets its contract. Assumes nothing.
use mathlib.Core.Bool.{Bool, true, false, cond}
use mathlib.Core.List.{[], ◌∷◌}
use mathlib.Core.Path.{◌≡◌, refl}
use mir.Val.{bool_byte}
use Rattle.test_interface.specs.Stored.{state_numbers}
use Rattle.test_interface.proofs.store_state.Goals as goal

-- a bool, cast
flag : (b : Bool) → bool_byte b ≡ cond b 1 0
flag true = refl
flag false = refl

pub returns : goal.returns
unfolding state_numbers
returns c =
    let s = c.args.state in
    (λ i. s.«at» ∷ flag s.sheet_read i ∷ s.«count» ∷ s.last_id ∷ s.«room» ∷ [], c.store_sheet.ensures)
