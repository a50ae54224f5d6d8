use Rattle.std.proofs.Common.{◌≡◌, ◌≢◌, ℕ, ◌-◌, ◌%◌, ◌<◌, ◌≤◌, replicate}
use Rattle.bit_slice.specs.BitSlice.{list_of}
use Rattle.bit_slice.specs.Pieces.{part}
use Rattle.bit_slice.proofs.slice.BitSlice.find_aligned_run.Given as goal

abbrev pub invariant-loop-i : goal.invariant-loop-i
invariant-loop-i g l = record {
  begins : l.from ≤ l.at;
  before : (j : ℕ) → l.from ≤ j → j < l.at → j % l.align ≡ 0 → part l.n (list_of l.self) j ≢ replicate l.n l.bit;
}

abbrev pub decreases-loop-i : goal.decreases-loop-i
decreases-loop-i g l = l.self.len - l.at
