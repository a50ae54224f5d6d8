use Rattle.std.proofs.Common.{◌≡◌, ◌+◌, ◌≤◌, ◌++◌, length, map, vec_capacity}
use Rattle.bit_blocks.specs.BlockLeft.{block_left}
use Rattle.bit_roaring.proofs.keyed.members.with_each.Given as goal

abbrev pub invariant-loop-low : goal.invariant-loop-low
invariant-loop-low l = record {
  left : block_left l.initial.low-iterator ≡ l.yielded ++ block_left l.low-iterator;
  so_far : l.out.items ≡ l.fn.numbers.items ++ map (λ k. l.fn.base + k) l.yielded;
  room : length l.out.items + length (block_left l.low-iterator) ≤ vec_capacity l.out;
  capacity : vec_capacity l.out ≡ vec_capacity l.fn.numbers;
}
