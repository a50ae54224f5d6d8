use Rattle.std.proofs.Common.{◌≡◌, ◌*◌, ◌<◌, ◌≤◌, ◌++◌, length}
use Rattle.bit_containers.specs.BitVec.{IsClean}
use Rattle.bit_records.proofs.records.Records.extend.Given as goal

-- what was pulled so far was appended
abbrev pub invariant-loop-number : goal.invariant-loop-number
invariant-loop-number g l = record {
  can : (goal.iterator-loop-number g).can_next l.number-iterator;
  finite : (goal.iterator-loop-number g).is_finite l.number-iterator;
  list : l.self.list ≡ l.fn.self.list ++ l.yielded;
  width : l.self.width ≡ l.fn.self.width;
  clean : IsClean g.T.BitStore.BITS l.self.bits;
  capacity : l.fn.self.bits.capacity ≤ l.self.bits.capacity;
  grown : l.fn.self.bits.capacity < l.self.bits.capacity → l.fn.self.bits.capacity < length l.self.list * l.self.width;
}
