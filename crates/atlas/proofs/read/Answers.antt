-- `atlas::read` meets its contract. Assumes nothing.
use mathlib.Core.Path.{ap, ◌∙◌}
use lib.ListN.{length}
use Rattle.refusal.proofs.Distinct.{no_number_zero}
use Rattle.atlas_file.specs.Reading.{FileReply}
use Rattle.integrity.proofs.Stands.{refused-has_none}
use Rattle.std.proofs.lemmas.Result.{err_from_is_err_and}
use Rattle.atlas.proofs.read.Goals as goal

pub returns-in_err-atlas : goal.returns-in_err-atlas
returns-in_err-atlas c =
    let p = err_from_is_err_and c.from_residual.result c.from_residual.ensures.1 in
    let refused = c.in_err-atlas.ensures in (
      rw (p.1, p.2) refused,
      rw (refused-has_none c.args.bytes.now (length c.args.table.now) (λ e. no_number_zero c.in_err-atlas.field-0.0.«refusal» (ap (λ (X : FileReply). X.number) refused ∙ e))),
    )
