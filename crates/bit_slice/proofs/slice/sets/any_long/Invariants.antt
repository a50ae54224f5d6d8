use Rattle.std.proofs.Common.{◌≡◌, ◌*◌, false, slice_range}
use Rattle.std.specs.List.{list_any}
use Rattle.bit_slice.specs.BitSlice.{list_of}
use Rattle.bit_slice.specs.Operators.{combined}
use Rattle.bit_slice.proofs.slice.sets.any_long.Given as goal

abbrev pub invariant-loop-t : goal.invariant-loop-t
invariant-loop-t g l = record { none : list_any (λ b. b) (slice_range (combined g.F.BitOperator.made (list_of l.left) (list_of l.right)) 0 (l.t * 64)) ≡ false }
