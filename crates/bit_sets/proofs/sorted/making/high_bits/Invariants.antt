use Rattle.std.proofs.Common.{◌≡◌, length}
use Rattle.bit_sets.proofs.Making.{AreMarked}
use Rattle.bit_sets.proofs.sorted.making.high_bits.Given as goal

abbrev pub invariant-loop-k : goal.invariant-loop-k
invariant-loop-k l = record {
  size : length l.list.list ≡ l.len;
  marked : AreMarked l.width l.numbers l.k l.list.list;
}
