use Rattle.std.proofs.Common.{◌≡◌, ◌≤◌, length, drop, vec_len, vec_capacity}
use Rattle.bit_portable.specs.Stored.{pieces_of}
use Rattle.bit_portable.specs.Reading.{pieces_in}
use Rattle.bit_portable.proofs.Decoded.{after_pieces}
use Rattle.bit_portable.proofs.reading.pieces_in.Given as goal

abbrev pub invariant-loop-k : goal.invariant-loop-k
invariant-loop-k l = record {
  so_far : after_pieces (pieces_of l.blocks.items) (pieces_in l.checked l.total l.offsets l.k (drop l.k l.heads) l.rest) ≡ pieces_in l.checked l.total l.offsets 0 l.heads l.bytes;
  within : length l.rest ≤ l.total;
  memory : vec_capacity l.blocks ≡ length l.heads;
  count : vec_len l.blocks ≡ l.k;
}
