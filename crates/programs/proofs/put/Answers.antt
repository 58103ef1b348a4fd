-- `programs::put` meets its contract. Assumes nothing.
use mathlib.Core.Path.{◌∙◌}
use Rattle.programs.proofs.put.Goals as goal

pub returns : goal.returns
returns c = rw (c.as_bytes.ensures.value ∙ c.as_str.ensures.value) at c.put_line_unchecked.ensures
