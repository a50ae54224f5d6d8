use Rattle.std.proofs.Common.{◌≡◌, ◌*◌, ◌/◌, drop, length}
use Rattle.bit_slice.specs.BitSlice.{len_of, list_of}
use Rattle.bit_slice.specs.PiecesLeft.{exact_chunks_left, remainder_of}
use Rattle.bit_examples.proofs.views.callers.rest_after_all.Given as goal

abbrev pub decreases-loop : goal.decreases-loop
decreases-loop g l = length (exact_chunks_left l.chunks)

abbrev pub invariant-loop : goal.invariant-loop
invariant-loop g l = remainder_of l.chunks ≡ drop (len_of l.view / l.n * l.n) (list_of l.view)
