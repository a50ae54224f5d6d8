use Rattle.std.proofs.Common.{◌≡◌, ◌+◌, ◌*◌, ◌≤◌, length}
use Rattle.bit_addressing.specs.Typed.{row}
use Rattle.bit_slice.proofs.Rotating.{rotated_run}
use Rattle.bit_slice.proofs.edits.rotate.rotate_long.Given as goal

abbrev pub invariant-loop-back : goal.invariant-loop-back
invariant-loop-back g l = record {
  inside : l.front ≤ l.left;
  within : l.at + l.left ≤ g.T.BitStore.BITS * length l.fn.words;
  size : length l.words ≡ length l.fn.words;
  result : rotated_run (row g.T.BitStore g.O.BitOrder l.words) l.at l.left l.front ≡ rotated_run (row g.T.BitStore g.O.BitOrder l.fn.words) l.fn.head l.fn.len l.fn.by;
}

abbrev pub decreases-loop-back : goal.decreases-loop-back
decreases-loop-back g l = l.left
