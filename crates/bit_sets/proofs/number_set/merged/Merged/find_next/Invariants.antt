use Rattle.std.proofs.Common.{◌≤◌, ◌-◌, true}
use Rattle.bit_slice.specs.Places.{IsAbsent}
use Rattle.bit_sets.specs.Merged.{merged_list}
use Rattle.bit_sets.proofs.number_set.merged.Merged.find_next.Given as goal

abbrev pub invariant-loop-number : goal.invariant-loop-number
invariant-loop-number l = record {
  begins : l.self.from ≤ l.from;
  none : IsAbsent true (merged_list l.self.merging l.self.left.now l.self.right.now) l.self.from l.from;
}

abbrev pub decreases-loop-number : goal.decreases-loop-number
decreases-loop-number l = l.self.upto - l.from
