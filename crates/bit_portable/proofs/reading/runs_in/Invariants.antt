use Rattle.std.proofs.Common.{◌≡◌, ◌≤◌, ◌+◌, ◌*◌, ◌/◌, length, vec_len, vec_capacity}
use Rattle.bit_portable.specs.Reading.{runs_in}
use Rattle.bit_portable.proofs.Decoded.{after_items}
use Rattle.bit_portable.proofs.reading.runs_in.Given as goal

abbrev pub invariant-loop-rest : goal.invariant-loop-rest
invariant-loop-rest l = record {
  so_far : after_items l.runs.items (runs_in l.from l.rest) ≡ runs_in 0 l.bytes;
  few : 4 * vec_len l.runs + length l.rest ≤ length l.bytes;
  memory : vec_capacity l.runs ≡ length l.bytes / 4;
  room : vec_len l.runs + length l.rest / 4 ≤ vec_capacity l.runs;
}

abbrev pub decreases-loop-rest : goal.decreases-loop-rest
decreases-loop-rest l = length l.rest
