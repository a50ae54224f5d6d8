use Rattle.std.proofs.Common.{◌≡◌, ◌+◌, ◌-◌, ◌≤◌}
use Rattle.bit_slice.specs.BitSlice.{list_of}
use Rattle.bit_slice.specs.Numbered.{count_before}
use Rattle.bit_slice.proofs.slice.nth.nth_from.Given as goal

abbrev pub invariant-scan : goal.invariant-scan
invariant-scan g l = record {
  within : l.at ≤ l.len;
  before : count_before l.bit (list_of l.view) l.at + l.left ≡ count_before l.bit (list_of l.view) l.from + l.k;
}

abbrev pub decreases-scan : goal.decreases-scan
decreases-scan g l = l.len - l.at
