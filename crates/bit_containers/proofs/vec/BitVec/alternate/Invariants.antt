use Rattle.std.proofs.Common.{◌≡◌, ◌-◌, ◌%◌, ◌<◌, ◌≤◌, length, take}
use Rattle.bit_containers.specs.Repeated.{alternating}
use Rattle.bit_containers.proofs.vec.BitVec.alternate.Given as goal

abbrev pub invariant-loop-at : goal.invariant-loop-at
invariant-loop-at g l = record {
  ends : l.at ≤ l.len;
  size : length l.self.list ≡ l.len;
  some : l.at < l.len → 0 < l.at;
  even : l.at < l.len → l.at % 2 ≡ 0;
  done : take l.at l.self.list ≡ alternating l.at l.first;
  head : l.self.head ≡ l.fn.self.head;
  capacity : l.self.capacity ≡ l.fn.self.capacity;
}

abbrev pub decreases-loop-at : goal.decreases-loop-at
decreases-loop-at g l = l.len - l.at
