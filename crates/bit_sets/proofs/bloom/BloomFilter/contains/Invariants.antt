use Rattle.std.proofs.Common.{◌≡◌, ◌<◌, ℕ, slice_get, Some, true}
use Rattle.bit_sets.specs.Bloom.{place}
use Rattle.bit_sets.proofs.bloom.BloomFilter.contains.Given as goal

abbrev pub invariant-loop-number : goal.invariant-loop-number
invariant-loop-number l = record {
  found : (i : ℕ) → i < l._number → slice_get l.self-inside.bits.list (place l.len l.hash i) ≡ Some true;
  at : l.place ≡ place l.len l.hash l._number;
}
