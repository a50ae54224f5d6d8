use Rattle.std.proofs.Common.{◌≡◌}
use Rattle.bit_sets.specs.Bloom.{IsMarked, place}
use Rattle.bit_sets.proofs.bloom.BloomFilter.insert.Given as goal

abbrev pub invariant-loop-number : goal.invariant-loop-number
invariant-loop-number l = record {
  marked : IsMarked l.initial.self-inside.bits.list l.self-inside.bits.list l.hash l._number;
  functions : l.self-inside.functions ≡ l.initial.self-inside.functions;
  at : l.place ≡ place l.len l.hash l._number;
}
