use Rattle.std.proofs.Common.{◌≡◌, ◌-◌, ◌≤◌, length, min, take}
use Rattle.bit_addressing.specs.Row.{put}
use Rattle.bit_addressing.specs.Typed.{row}
use Rattle.bit_slice.specs.BitSlice.{list_of}
use Rattle.bit_slice.specs.Overwritten.{list_in}
use Rattle.bit_slice.proofs.Masking.{ones, written_to}
use Rattle.bit_slice.proofs.edits.masked.deposit_masked.Given as goal

abbrev pub invariant-loop-at : goal.invariant-loop-at
invariant-loop-at g l = record {
  ends : l.at ≤ l.upto;
  size : length l.words ≡ length l.initial.words;
  taken : l.taken ≡ min (ones (take l.at (list_of l.mask))) (length (list_of l.source));
  done : row g.T.BitStore g.O.BitOrder l.words ≡ put (row g.T.BitStore g.O.BitOrder l.initial.words) l.head
      (written_to (list_in g.T.BitStore g.O.BitOrder l.initial.words l.head l.len) (list_of l.mask) (list_of l.source) l.at);
}

abbrev pub decreases-loop-at : goal.decreases-loop-at
decreases-loop-at g l = l.upto - l.at
