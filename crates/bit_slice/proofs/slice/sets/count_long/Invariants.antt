use Rattle.std.proofs.Common.{◌≡◌, ◌*◌, count_by, slice_range}
use Rattle.bit_slice.specs.BitSlice.{list_of}
use Rattle.bit_slice.specs.Operators.{combined}
use Rattle.bit_slice.proofs.slice.sets.count_long.Given as goal

abbrev pub invariant-loop-t : goal.invariant-loop-t
invariant-loop-t g l = record { counted : l.count ≡ count_by (λ b. b) (slice_range (combined g.F.BitOperator.made (list_of l.left) (list_of l.right)) 0 (l.t * 64)) }
