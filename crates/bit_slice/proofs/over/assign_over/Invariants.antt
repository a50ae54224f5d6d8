use Rattle.std.proofs.Common.{◌≡◌, ◌-◌, ◌≤◌, length, slice_range}
use Rattle.bit_addressing.specs.Row.{put}
use Rattle.bit_addressing.specs.Typed.{row}
use Rattle.bit_slice.specs.BitSlice.{list_of}
use Rattle.bit_slice.specs.Operators.{combined}
use Rattle.bit_slice.proofs.over.assign_over.Given as goal

abbrev pub invariant-pieces : goal.invariant-pieces
invariant-pieces g l = record {
  inside : l.done ≤ l.len;
  size : length l.words ≡ length l.initial.words;
  bits : row g.T.BitStore g.O.BitOrder l.words ≡ put (row g.T.BitStore g.O.BitOrder l.initial.words) l.head (slice_range (combined g.F.BitOperator.made (list_of l.left) (list_of l.right)) 0 l.done);
}

abbrev pub decreases-pieces : goal.decreases-pieces
decreases-pieces g l = l.len - l.done
