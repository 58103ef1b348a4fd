-- `atlas_file::reading::read_through` meets its contract. Assumes nothing.
use mathlib.Core.Path.{refl, sym}
use mathlib.Core.Bool.{true≢false}
use mathlib.Core.List.{[]}
use Prim.Native.Nat.{suc}
use native.Mathlib.Omega.{arith}
use lib.ListN.{length}
use Rattle.std.proofs.lemmas.Result.{err_from_is_err_and}
use Rattle.atlas_file.specs.Reading.{start_of, read_of}
use Rattle.atlas_file.proofs.ReadsOn.{less, reads_on, ends, refuses, unless_end}
use Rattle.atlas_file.proofs.reading.read_through.Goals as goal

pub loop-advance-init : goal.loop-advance-init
unfolding read_of start_of
loop-advance-init c =
    rw c.start-state.ensures (record {
      steps = suc (length c.args.bytes.now);
      places = [];
      same = refl;
      enough = omega arith;
      passed = λ e. absurd (true≢false (sym e));
    })

pub loop-advance-smaller : goal.loop-advance-smaller
loop-advance-smaller c = less _ _ _ c.in_ok-advance.ensures (unless_end _ c.in_default.not-End)

pub loop-advance-preserved : goal.loop-advance-preserved
loop-advance-preserved c = reads_on _ _ _ c.loop-advance.invariant _ c.in_ok-advance.ensures (unless_end _ c.in_default.not-End)

pub returns-in-End : goal.returns-in-End
returns-in-End c = ends _ _ _ c.loop-advance.invariant _ c.in_ok-advance.ensures _ c.in-End.is

pub returns-in_err-advance : goal.returns-in_err-advance
returns-in_err-advance c =
    let p = err_from_is_err_and c.from_residual.result c.from_residual.ensures.1 in
    rw (p.1, p.2) (refuses _ _ _ c.loop-advance.invariant _ c.in_err-advance.ensures)
