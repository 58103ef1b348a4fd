-- `place::is_name` meets its contract. Each turn tests one byte more, from the last on. Assumes nothing.
use mathlib.Core.Path.{◌≡◌, refl, sym, ◌∙◌, ap}
use mathlib.Core.List.{List, [], ◌∷◌, ◌++◌, append-nil, append_assoc}
use Prim.Native.Nat.{ℕ}
use native.Mathlib.Omega.{arith}
use borrow.Author.Rules.{rules}
use lib.ListN.{length}
use Rattle.place.specs.Names.{is_name}
use Rattle.place.proofs.is_name.Goals as goal

none_left : (xs : List ℕ) → length xs ≡ 0 → xs ≡ []
none_left [] e = refl
none_left (x ∷ xs) e = absurd (omega arith)

pub loop-b-init : goal.loop-b-init
loop-b-init c =
    let a = c.into_iter-b-iterator.ensures.into_iter_gives in
    let b = c.rev-b-items.ensures.source in
    let d = c.iter.ensures.rest in
    ([], cc (append-nil c.into_iter-b-iterator.result.iter.rest.now), refl, refl)

pub loop-b-preserved : goal.loop-b-preserved
loop-b-preserved c =
    let i = c.loop-b.invariant in
    let b = c.in-Some.field-0.now in
    (b ∷ i.0, i.1 ∙ (ap (λ (bs : List ℕ). bs ++ i.0) c.in-Some.ensures.steps ∙ append_assoc c.next.new.self.iter.rest.now (b ∷ []) i.0), rw i.2, rw (i.2, i.3, c.is_printable.ensures))

pub returns : goal.returns
unfolding is_name
returns c =
    let i = c.loop-b.invariant in
    let all : c.args.name ≡ i.0 = i.1 ∙ ap (λ (bs : List ℕ). bs ++ i.0) (none_left _ c.in-None.ensures.steps.0) in
    let size : length c.args.name ≡ 16 = search rules in
    rw (c.is_printable-2.ensures, i.3, sym all, size)
