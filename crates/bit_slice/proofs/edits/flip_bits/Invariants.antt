use Rattle.std.proofs.Common.{◌≡◌, ◌-◌, ◌≤◌, length, map, not, slice_range}
use Rattle.bit_addressing.specs.Row.{put}
use Rattle.bit_addressing.specs.Typed.{row}
use Rattle.bit_slice.proofs.edits.flip_bits.Given as goal

abbrev pub invariant-loop-at : goal.invariant-loop-at
invariant-loop-at g l = record {
  begins : l.from ≤ l.at;
  ends : l.at ≤ l.upto;
  size : length l.words ≡ length l.initial.words;
  done : row g.T.BitStore g.O.BitOrder l.words ≡ put (row g.T.BitStore g.O.BitOrder l.initial.words) l.from (map not (slice_range (row g.T.BitStore g.O.BitOrder l.initial.words) l.from l.at));
}

abbrev pub decreases-loop-at : goal.decreases-loop-at
decreases-loop-at g l = l.upto - l.at
