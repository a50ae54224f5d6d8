use Rattle.std.proofs.Common.{◌≡◌, ◌+◌, ◌-◌, ◌≤◌, ◌++◌, length, map, take, vec_capacity}
use Rattle.bit_roaring.proofs.keyed.members.with_list.Given as goal

abbrev pub invariant-loop-low : goal.invariant-loop-low
invariant-loop-low l = record {
  so_far : l.out.items ≡ l.fn.numbers.items ++ map (λ k. l.fn.base + k) (take l.low-index l.list);
  room : length l.out.items + (length l.list - l.low-index) ≤ vec_capacity l.out;
  capacity : vec_capacity l.out ≡ vec_capacity l.fn.numbers;
}
