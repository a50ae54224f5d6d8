use Rattle.std.proofs.Common.{◌≡◌}
use Rattle.bit_containers.proofs.Calling.{RetainsUpTo}
use Rattle.bit_containers.proofs.vec.BitVec.retain_by.Given as goal

abbrev pub invariant-loop-index : goal.invariant-loop-index
invariant-loop-index g l = record {
  head : l.self.head ≡ l.fn.self.head;
  capacity : l.self.capacity ≡ l.fn.self.capacity;
  retains : RetainsUpTo (goal.F-step g) l.fn.f l.fn.self.list l.f l.self.list l.count l.number l.index;
}
