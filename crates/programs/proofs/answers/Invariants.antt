-- `programs::answers`: what is printed of the bytes that are left, put where the loop stands, gives what is printed of the whole part, put at the start.
use mathlib.Core.Path.{◌≡◌}
use Prim.Native.Nat.{◌+◌, ◌*◌, ◌≤◌}
use lib.ListN.{length, drop}
use Rattle.little_endian.specs.Numbers.{put}
use Rattle.programs.specs.Tapping.{begun_by, printed_by, taken}
use Rattle.programs.proofs.answers.Given as goal

abbrev pub invariant-loop-byte : goal.invariant-loop-byte
invariant-loop-byte l =
    let left = printed_by l.sheet l.table l.begun (drop l.byte-index l.byte-items) in
    let all = printed_by l.sheet l.table l.initial.begun l.byte-items in
    record {
      part : l.byte-items ≡ taken l.input;
      room : l.to ≤ 64 * l.byte-index;
      begins : begun_by l.begun (drop l.byte-index l.byte-items) ≡ begun_by l.initial.begun l.byte-items;
      ends : l.to + length left ≡ length all;
      holds : put l.out l.to left ≡ put l.initial.out 0 all;
    }
