use Rattle.std.proofs.Common.{◌≡◌, ◌+◌, ◌*◌, count_by, slice_range}
use Rattle.bit_slice.specs.BitSlice.{list_of}
use Rattle.bit_ranks.proofs.counts.ones_by_blocks.Given as goal

abbrev pub invariant-loop-t : goal.invariant-loop-t
invariant-loop-t g l = record { counted : l.count ≡ count_by (λ b. b) (slice_range (list_of l.view) l.from (l.from + l.t * 64)) }
