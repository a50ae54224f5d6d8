use Rattle.std.proofs.Common.{◌-◌, length}
use Rattle.bit_roaring.proofs.Cut.{CutTo}
use Rattle.bit_roaring.proofs.keyed.ascending.of_ascending.Given as goal

abbrev pub invariant-loop-from : goal.invariant-loop-from
invariant-loop-from l = CutTo l.numbers l.blocks.items l.from

abbrev pub decreases-loop-from : goal.decreases-loop-from
decreases-loop-from l = length l.numbers - l.from
