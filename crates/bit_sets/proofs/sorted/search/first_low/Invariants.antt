use Rattle.std.proofs.Common.{◌-◌, ℕ, ◌<◌, ◌≤◌}
use Rattle.bit_sets.specs.Sorted.{low_part}
use Rattle.bit_sets.proofs.sorted.search.first_low.Given as goal

abbrev pub invariant-halve : goal.invariant-halve
invariant-halve l = record {
  begins : l.first ≤ l.from;
  ordered : l.from ≤ l.upto;
  ends : l.upto ≤ l.end;
  below : (k : ℕ) → l.first ≤ k → k < l.from → low_part l.width l.low.list k < l.rest;
  above : (k : ℕ) → l.upto ≤ k → k < l.end → l.rest ≤ low_part l.width l.low.list k;
}

abbrev pub decreases-halve : goal.decreases-halve
decreases-halve l = l.upto - l.from
