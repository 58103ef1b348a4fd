-- `atlas::write` meets its contract. Assumes nothing.
use mathlib.Core.Path.{ap, ◌∙◌}
use mathlib.Core.List.{[], ◌∷◌}
use native.Mathlib.Omega.{arith}
use lib.IntN.{pos}
use Rattle.std.proofs.lemmas.Result.{err_from_is_err_and}
use Rattle.refusal.specs.Numbers.{accepted}
use Rattle.refusal.proofs.InOrder.{accepted-all_hold}
use Rattle.atlas_file.specs.Writing.{list_rules}
use Rattle.integrity.proofs.Accepted.{list_parts}
use Rattle.atlas.proofs.WriterReplies.{fits, too_short, refuses}
use Rattle.atlas.proofs.write.Goals as goal

pub returns-in_err-check_list : goal.returns-in_err-check_list
returns-in_err-check_list c =
    let p = err_from_is_err_and c.from_residual.result c.from_residual.ensures.1 in
    rw (p.1, p.2) (refuses c.args.sheet c.args.table.now c.args.buffer.now _ c.in_err-check_list.ensures)

pub file_length-length-requires : goal.file_length-length-requires
file_length-length-requires c = (list_parts c.args.sheet _ (accepted-all_hold 0 (list_rules _ _) [] [] c.in_ok-check_list.ensures)).1

pub returns-then-buffer-length : goal.returns-then-buffer-length
returns-then-buffer-length c =
    too_short c.args.sheet c.args.table.now c.args.buffer.now (accepted-all_hold 0 (list_rules _ _) [] [] c.in_ok-check_list.ensures) (omega arith)

pub write_file-requires : goal.write_file-requires
write_file-requires c = ((list_parts c.args.sheet _ (accepted-all_hold 0 (list_rules _ _) [] [] c.in_ok-check_list.ensures)).1, omega arith)

pub returns : goal.returns
returns c =
    let both = fits c.args.sheet c.args.table.now c.args.buffer.now (accepted-all_hold 0 (list_rules _ _) [] [] c.in_ok-check_list.ensures) (omega arith) in
    (ap (λ k. accepted (pos k ∷ [])) c.file_length-length.ensures ∙ both.0, c.write_file.ensures ∙ both.1)
