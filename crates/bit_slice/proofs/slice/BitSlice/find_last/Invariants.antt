use Rattle.std.proofs.Common.{◌-◌, ◌≡◌, ◌^◌, ◌≤◌, not, if◌then◌else◌}
use Rattle.bit_slice.specs.BitSlice.{list_of}
use Rattle.bit_slice.specs.Places.{IsAbsent}
use Rattle.bit_slice.proofs.slice.BitSlice.find_last.Given as goal

abbrev pub invariant-loop-end : goal.invariant-loop-end
invariant-loop-end g l = record {
  begins : l.from ≤ l.end;
  ends : l.end ≤ l.upto;
  others : l.others ≡ (if not l.bit then 2 ^ 64 - 1 else 0);
  after : IsAbsent l.bit (list_of l.self) l.end l.upto;
}

abbrev pub decreases-loop-end : goal.decreases-loop-end
decreases-loop-end g l = l.end - l.from
