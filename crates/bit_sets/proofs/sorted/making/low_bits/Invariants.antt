use Rattle.std.proofs.Common.{◌≡◌, ℕ, ◌%◌, ◌^◌, ◌<◌, get_or, length}
use Rattle.bit_sets.specs.Sorted.{low_part}
use Rattle.bit_sets.proofs.sorted.making.low_bits.Given as goal

abbrev pub invariant-loop-k : goal.invariant-loop-k
invariant-loop-k l = record {
  size : length l.list.list ≡ l.len;
  each : (j : ℕ) → j < l.k → low_part l.width l.list.list j ≡ get_or l.numbers j 0 % 2 ^ l.width;
}
