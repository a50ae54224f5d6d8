use Rattle.std.proofs.Common.{◌≡◌, ◌+◌, count_by, length}
use Rattle.bit_slice.specs.BitSlice.{list_of}
use Rattle.bit_slice.specs.Indices.{ones_left}
use Rattle.bit_examples.proofs.views.callers.count_by_loop.Given as goal

abbrev pub invariant-loop : goal.invariant-loop
invariant-loop g l = l.count + length (ones_left l.iterator') ≡ count_by (λ b. b) (list_of l.view)
