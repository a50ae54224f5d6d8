use Rattle.std.proofs.Common.{◌≢◌, ℕ, ◌<◌, ◌≤◌}
use Rattle.bit_slice.specs.BitSlice.{len_of, list_of}
use Rattle.bit_slice.specs.Pieces.{part}
use Rattle.bit_slice.proofs.slice.BitSlice.find_last_part.Given as goal

abbrev pub invariant-loop-upto : goal.invariant-loop-upto
invariant-loop-upto g l = record {
  ends : l.upto ≤ l.all;
  none : (j : ℕ) → l.upto ≤ j → j < l.all → part (len_of l.other) (list_of l.self) j ≢ list_of l.other;
}

abbrev pub decreases-loop-upto : goal.decreases-loop-upto
decreases-loop-upto g l = l.upto
