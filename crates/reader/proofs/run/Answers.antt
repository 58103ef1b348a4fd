-- `reader::run` meets its contract. Assumes nothing.
use mathlib.Core.Path.{refl, ap, sym}
use mathlib.Core.Bool.{true≢false}
use mathlib.Core.List.{[]}
use Prim.Native.Nat.{suc}
use native.Mathlib.Omega.{arith}
use lib.ListN.{length}
use Rattle.std.proofs.lemmas.Result.{err_from_is_err_and}
use Rattle.atlas_file.specs.Reading.{start_of, read_of}
use Rattle.atlas_file.proofs.ReadsOn.{unless_end}
use Rattle.reader.proofs.Turns.{is_less, still_stands, at_end, at_refusal}
use Rattle.reader.proofs.run.Goals as goal

pub loop-advance-init : goal.loop-advance-init
unfolding read_of start_of
loop-advance-init c = record {
  file = ap (λ x. x.now) c.start-reader.ensures.0;
  on =
      rw c.start-reader.ensures.1 (record {
        steps = suc (length c.args.bytes.now);
        places = [];
        same = refl;
        enough = omega arith;
        passed = λ e. absurd (true≢false (sym e));
      });
}

pub returns-in_err-advance : goal.returns-in_err-advance
returns-in_err-advance c =
    let p = err_from_is_err_and c.from_residual.result c.from_residual.ensures.1 in
    rw (p.1, p.2) (at_refusal c.loop-advance.invariant _ c.in_err-advance.ensures)

pub returns-in-End : goal.returns-in-End
returns-in-End c = at_end c.loop-advance.invariant _ c.in_ok-advance.ensures _ c.in-End.is

pub loop-advance-smaller : goal.loop-advance-smaller
loop-advance-smaller c = is_less c.loop-advance.invariant _ c.in_ok-advance.ensures (unless_end _ c.in_default.not-End) c.moved-reader.ensures

pub loop-advance-preserved : goal.loop-advance-preserved
loop-advance-preserved c = still_stands c.loop-advance.invariant _ c.in_ok-advance.ensures (unless_end _ c.in_default.not-End) c.moved-reader.ensures
