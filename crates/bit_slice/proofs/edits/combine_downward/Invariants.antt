use Rattle.std.proofs.Common.{◌≡◌, ◌+◌, ◌≤◌, length, slice_range}
use Rattle.bit_addressing.specs.Row.{put}
use Rattle.bit_addressing.specs.Typed.{row}
use Rattle.bit_slice.specs.Operators.{combined}
use Rattle.bit_slice.proofs.edits.combine_downward.Given as goal

abbrev pub invariant-loop-left : goal.invariant-loop-left
invariant-loop-left g l = record {
  ends : l.left ≤ l.n;
  size : length l.words ≡ length l.initial.words;
  bits : row g.T.BitStore g.O.BitOrder l.words ≡ put (row g.T.BitStore g.O.BitOrder l.initial.words) (l.at + l.left) (combined g.F.BitOperator.made (slice_range (row g.T.BitStore g.O.BitOrder l.initial.words) (l.at + l.left) (l.at + l.n)) (slice_range (row g.T.BitStore g.O.BitOrder l.initial.words) (l.from + l.left) (l.from + l.n)));
}

abbrev pub decreases-loop-left : goal.decreases-loop-left
decreases-loop-left g l = l.left
