use Rattle.std.proofs.Common.{◌≡◌, ◌+◌, ◌-◌, ◌*◌, ◌≤◌, ◌++◌, length, take, vec_capacity}
use Rattle.std.specs.List.{flat_map}
use Rattle.bit_portable.specs.Stored.{two}
use Rattle.bit_portable.proofs.writing.with_numbers.Given as goal

abbrev pub invariant-loop-number : goal.invariant-loop-number
invariant-loop-number l = record {
  so_far : l.out.items ≡ l.fn.bytes.items ++ flat_map two (take l.number-index l.numbers);
  room : length l.out.items + 2 * (length l.numbers - l.number-index) ≤ vec_capacity l.out;
}
