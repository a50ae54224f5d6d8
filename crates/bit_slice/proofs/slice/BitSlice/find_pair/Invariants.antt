use Rattle.std.proofs.Common.{◌≤◌, ◌-◌, true}
use Rattle.bit_slice.specs.BitSlice.{len_of, list_of}
use Rattle.bit_slice.specs.Operators.{combined}
use Rattle.bit_slice.specs.Places.{IsAbsent}
use Rattle.bit_slice.proofs.slice.BitSlice.find_pair.Given as goal

abbrev pub invariant-loop-at : goal.invariant-loop-at
invariant-loop-at g l = record {
  begins : l.from ≤ l.at;
  ends : l.at ≤ len_of l.self;
  none : IsAbsent true (combined g.F.BitOperator.made (list_of l.self) (list_of l.other)) l.from l.at;
}

abbrev pub decreases-loop-at : goal.decreases-loop-at
decreases-loop-at g l = l.both - l.at
