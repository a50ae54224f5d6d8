use Rattle.std.proofs.Common.{◌≡◌, ◌+◌, ◌<◌, ◌≤◌, length}
use Rattle.bit_addressing.specs.declared.length.TheConstants.{MAX_BITS}
use Rattle.bit_containers.proofs.Pulling.{Gathers}
use Rattle.bit_containers.proofs.vec.BitVec.extend_by.Given as goal

abbrev pub invariant-loop-bit : goal.invariant-loop-bit
invariant-loop-bit g l = record {
  can : (goal.iterator-loop-bit g).can_next l.bit-iterator;
  finite : (goal.iterator-loop-bit g).is_finite l.bit-iterator;
  joined : Gathers g.T.BitStore.BITS l.fn.self l.self l.number l.got l.yielded;
  room : l.got ≤ l.most;
  word : l.most ≤ 64;
  few : length l.self.list + l.most ≤ MAX_BITS;
  full : l.most < 64 → length l.self.list + l.most ≡ MAX_BITS;
  capacity : l.fn.self.capacity ≤ l.self.capacity;
  grown : l.fn.self.capacity < l.self.capacity → l.fn.self.capacity < length l.self.list + l.got;
}
