use Rattle.std.proofs.Common.{◌-◌, ◌≤◌}
use Rattle.bit_slice.specs.BitSlice.{len_of, list_of}
use Rattle.bit_slice.specs.Split.{NoneTaken}
use Rattle.bit_slice.proofs.slice.BitSlice.first_taken.Given as goal

abbrev pub invariant-loop-at : goal.invariant-loop-at
invariant-loop-at g l = record {
  begins : l.from ≤ l.at;
  ends : l.at ≤ len_of l.self;
  none : NoneTaken (goal.F-step g) (list_of l.self) l.fn.test l.from (l.at - l.from) l.test;
}

abbrev pub decreases-loop-at : goal.decreases-loop-at
decreases-loop-at g l = l.self.len - l.at
