use Rattle.std.proofs.Common.{◌≡◌, ◌+◌, ◌*◌, ◌≤◌, ◌++◌, length, take}
use Rattle.bit_containers.specs.BitVec.{IsClean}
use Rattle.bit_records.proofs.records.Records.extend_from_slice.Given as goal

-- the numbers below `i` were appended, and there is room for all
abbrev pub invariant-loop-i : goal.invariant-loop-i
invariant-loop-i g l = record {
  list : l.self.list ≡ l.fn.self.list ++ take l.i l.fn.numbers;
  width : l.self.width ≡ l.fn.self.width;
  clean : IsClean g.T.BitStore.BITS l.self.bits;
  room : (length l.fn.self.list + length l.fn.numbers) * l.fn.self.width ≤ l.self.bits.capacity;
  capacity : l.self.bits.capacity ≡ l.initial.self.bits.capacity;
}
