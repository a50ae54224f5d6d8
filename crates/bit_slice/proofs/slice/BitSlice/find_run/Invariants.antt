use Rattle.std.proofs.Common.{◌≡◌, ◌≢◌, ℕ, ◌-◌, ◌<◌, ◌≤◌, replicate}
use Rattle.bit_slice.specs.BitSlice.{list_of}
use Rattle.bit_slice.specs.Pieces.{part}
use Rattle.bit_slice.proofs.slice.BitSlice.find_run.Given as goal

abbrev pub invariant-scan : goal.invariant-scan
invariant-scan g l = record {
  within : l.at ≤ l.self.len;
  begins : l.at < l.self.len → l.from ≤ l.at;
  some : l.at < l.self.len → 0 < l.n;
  empty : l.n ≡ 0 → l.self.len < l.from;
  before : (j : ℕ) → l.from ≤ j → j < l.at → part l.n (list_of l.self) j ≢ replicate l.n l.bit;
}

abbrev pub decreases-scan : goal.decreases-scan
decreases-scan g l = l.self.len - l.at
