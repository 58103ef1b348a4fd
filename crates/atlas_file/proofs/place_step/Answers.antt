-- `atlas_file::place_step` meets its contract. Assumes nothing.
use Rattle.refusal.proofs.InOrder.{all_hold-good}
use Rattle.place.specs.Places.{place_rules}
use Rattle.std.proofs.lemmas.Result.{err_from_is_err_and}
use Rattle.atlas_file.specs.Steps.{place_step}
use Rattle.atlas_file.proofs.ByVerdict.{here-good, here-bad}
use Rattle.atlas_file.proofs.place_step.Goals as goal

pub returns-in_err-here : goal.returns-in_err-here
unfolding place_step
returns-in_err-here c =
    let s = c.args.state in
    let p = err_from_is_err_and c.from_residual.result c.from_residual.ensures.1 in
    rw (p.1, p.2, ← c.decode_place_unchecked-place.ensures)
    (here-bad (place_rules s.sheet s.count s.last_id _) s _ c.verdict_for.ensures c.in_err-here.ensures _)

pub returns : goal.returns
unfolding place_step
returns c =
    let s = c.args.state in
    rw (
      ← c.decode_place_unchecked-place.ensures,
      all_hold-good _ (place_rules s.sheet s.count s.last_id _) _ _ (here-good (place_rules s.sheet s.count s.last_id _) s _ c.verdict_for.ensures c.in_ok-here.ensures),
      c.requires.end_value,
    )
