use Rattle.std.proofs.Common.{◌≡◌, ◌++◌, ◌≤◌, ◌+◌, ◌/◌, length, vec_len, vec_capacity}
use Rattle.bit_portable.specs.Reading.{twos}
use Rattle.bit_portable.proofs.reading.twos.Given as goal

abbrev pub invariant-loop-rest : goal.invariant-loop-rest
invariant-loop-rest l = record {
  so_far : l.numbers.items ++ twos l.rest ≡ twos l.bytes;
  memory : vec_capacity l.numbers ≡ length l.bytes / 2;
  room : vec_len l.numbers + length l.rest / 2 ≤ vec_capacity l.numbers;
}

abbrev pub decreases-loop-rest : goal.decreases-loop-rest
decreases-loop-rest l = length l.rest
