use Rattle.std.proofs.Common.{◌≡◌, ◌+◌, length}
use Rattle.bit_slice.specs.BitSlice.{list_of}
use Rattle.bit_slice.specs.Iter.{rest_of}
use Rattle.bit_examples.proofs.views.callers.counted_by_for.Given as goal

abbrev pub invariant-loop : goal.invariant-loop
invariant-loop g l = l.count + length (rest_of l.iterator') ≡ length (list_of l.view)
