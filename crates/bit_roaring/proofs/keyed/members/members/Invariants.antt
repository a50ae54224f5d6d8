use Rattle.std.proofs.Common.{◌≡◌, ◌≤◌, ◌++◌, drop, length, vec_capacity}
use Rattle.bit_roaring.specs.Keyed.{set_numbers}
use Rattle.bit_roaring.proofs.keyed.members.members.Given as goal

abbrev pub invariant-loop-keyed : goal.invariant-loop-keyed
invariant-loop-keyed l = record {
  so_far : l.numbers.items ++ set_numbers (drop l.keyed-index l.blocks) ≡ set_numbers l.blocks;
  room : length (set_numbers l.blocks) ≤ vec_capacity l.numbers;
}
