use Rattle.std.proofs.Common.{◌≡◌, ◌+◌, ◌<◌, ◌≤◌, ◌++◌, length}
use Rattle.bit_containers.specs.Making.{highest_bits}
use Rattle.bit_addressing.specs.declared.length.TheConstants.{MAX_BITS}
use Rattle.bit_containers.proofs.vec.BitVec.pulled.Given as goal

abbrev pub invariant-loop-bit : goal.invariant-loop-bit
invariant-loop-bit g l = record {
  can : (goal.iterator-loop-bit g).can_next l.bit-iterator;
  finite : (goal.iterator-loop-bit g).is_finite l.bit-iterator;
  list : l.v.list ++ highest_bits l.number l.got ≡ l.yielded;
  room : l.got ≤ l.room;
  word : l.room ≤ 64;
  fits : length l.v.list + l.room ≤ MAX_BITS;
  full : l.room < 64 → length l.v.list + l.room ≡ MAX_BITS;
  few : length l.v.list + l.got ≤ l.most;
}
