use Rattle.std.proofs.Common.{◌≡◌, ◌+◌, ◌-◌, ◌≤◌, length, slice_range}
use Rattle.bit_addressing.specs.Row.{put}
use Rattle.bit_addressing.specs.Typed.{row}
use Rattle.bit_slice.specs.Operators.{combined}
use Rattle.bit_slice.proofs.edits.combine_upward.Given as goal

abbrev pub invariant-loop-done : goal.invariant-loop-done
invariant-loop-done g l = record {
  ends : l.done ≤ l.n;
  size : length l.words ≡ length l.initial.words;
  bits : row g.T.BitStore g.O.BitOrder l.words ≡ put (row g.T.BitStore g.O.BitOrder l.initial.words) l.at (combined g.F.BitOperator.made (slice_range (row g.T.BitStore g.O.BitOrder l.initial.words) l.at (l.at + l.done)) (slice_range (row g.T.BitStore g.O.BitOrder l.initial.words) l.from (l.from + l.done)));
}

abbrev pub decreases-loop-done : goal.decreases-loop-done
decreases-loop-done g l = l.n - l.done
