-- `place::check_place_on` meets its contract. Assumes nothing.
use borrow.Author.Rules.{rules}
use Rattle.place.proofs.Fields.{typed}
use Rattle.place.proofs.PlaceVerdicts.{by_position}
use Rattle.place.proofs.check_place_on.Goals as goal

pub returns : goal.returns
returns c =
    let a = c.args in
    by_position (typed {p = a.place} (search rules)) a.checked.sheet a.count a.last_id c.forward_on-answer.result c.verdict_at.result
    c.forward_on-answer.ensures c.verdict_at.ensures
