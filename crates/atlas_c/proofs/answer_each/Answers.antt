-- `atlas_c::answer_each` meets its contract. Assumes nothing.
use mathlib.Core.Path.{◌≡◌, refl, ◌∙◌}
use Prim.Native.Nat.{◌/◌}
use native.Mathlib.Omega.{arith}
use borrow.Author.Rules.{rules}
use lib.ListN.{length}
use Rattle.atlas_c.proofs.Answers.{none_filled, one_filled}
use Rattle.atlas_c.proofs.answer_each.Goals as goal

pub loop-k-init : goal.loop-k-init
loop-k-init g c = none_filled

pub loop-k-preserved : goal.loop-k-preserved
loop-k-preserved g c =
    let put = c.copy_from_slice.ensures in
    one_filled c.loop-k.invariant (omega arith) put.len (put.after ∙ c.answer-answer.ensures) refl (search rules) (search rules)

pub returns : goal.returns
returns g c = let all : c.loop-k.k ≡ length c.args.pairs.now / 2 = omega arith in rw all at c.loop-k.invariant.is
