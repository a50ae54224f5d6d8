use Rattle.std.proofs.Common.{◌≡◌, ◌++◌, length}
use Rattle.bit_blocks.specs.BlockLeft.{based_left}
use Rattle.bit_blocks.proofs.mapped.list_of.Given as goal

abbrev pub invariant-loop-number : goal.invariant-loop-number
invariant-loop-number l = based_left l.initial.ones ≡ l.numbers.items ++ based_left l.ones

abbrev pub decreases-loop-number : goal.decreases-loop-number
decreases-loop-number l = length (based_left l.ones)
