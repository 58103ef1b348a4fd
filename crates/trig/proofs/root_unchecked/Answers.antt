-- `trig::root_unchecked` meets its contract. What is left: the number beside the guess is in the range that its test asks for. Assumes nothing.
use lib.IntN.{pos}
use mir.Syntax.{w64}
use Rattle.arith.specs.Bounds.{Within}
use Rattle.arith.proofs.Tests.{facts, said}
use Rattle.arith.proofs.Fits.{bounded, back, lit, r_bits, r_add, r_sub, inside_of}
use Rattle.trig.proofs.root_unchecked.Goals as goal
use Rattle.trig.proofs.root_unchecked.Goals.{then-near-q, else-near-q}

pub is_root-requires-then-near-clause-s : goal.is_root-requires-then-near-clause-s
is_root-requires-then-near-clause-s c =
    let f = rw (back w64 c.root-near.result c.root-near.type_inv) at (facts c.if-near.true (search said depth 9)) in
    let near : Within (pos 1) (pos 1073741824) c.root-near.result = record { low = f.0; high = f.1 } in
    elim c.if-near-q.branch [
      | then-near-q w ↦ rw w.beside-is (inside_of (r_bits w64 (r_add (bounded w64 near) (lit (pos 1)))) tt)
      | else-near-q w ↦ rw w.beside-is (inside_of (r_bits w64 (r_sub (bounded w64 near) (lit (pos 1)))) tt)
    ]
