use Rattle.std.proofs.Common.{◌≡◌, ◌+◌, ◌-◌, ◌*◌, length}
use Rattle.bit_addressing.specs.Typed.{row}
use Rattle.bit_slice.proofs.Turned.{IsTurned}
use Rattle.bit_slice.proofs.edits.reverse.reverse_pairs.Given as goal

abbrev pub invariant-loop-t : goal.invariant-loop-t
invariant-loop-t g l = record {
  size : length l.words ≡ length l.initial.words;
  turned : IsTurned (row g.T.BitStore g.O.BitOrder l.initial.words) (row g.T.BitStore g.O.BitOrder l.words) l.head l.len (l.head + l.t * 64) (l.head + l.len - l.t * 64);
}
