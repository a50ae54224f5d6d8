use Rattle.std.proofs.Common.{◌≡◌, ◌≤◌, ◌+◌, ◌*◌, ◌/◌, length, vec_len, vec_capacity}
use Rattle.bit_portable.specs.Reading.{heads_in}
use Rattle.bit_portable.proofs.Decoded.{after_items}
use Rattle.bit_portable.proofs.reading.heads_in.Given as goal

abbrev pub invariant-loop-rest : goal.invariant-loop-rest
invariant-loop-rest l = record {
  so_far : after_items l.heads.items (heads_in l.flags l.k l.from l.rest) ≡ heads_in l.flags 0 0 l.bytes;
  bound : l.k + length l.rest ≤ length l.bytes;
  few : 4 * vec_len l.heads + length l.rest ≤ length l.bytes;
  memory : vec_capacity l.heads ≡ length l.bytes / 4;
  room : vec_len l.heads + length l.rest / 4 ≤ vec_capacity l.heads;
}

abbrev pub decreases-loop-rest : goal.decreases-loop-rest
decreases-loop-rest l = length l.rest
