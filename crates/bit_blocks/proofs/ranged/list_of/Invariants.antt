use Rattle.std.proofs.Common.{◌≡◌, ◌++◌, length}
use Rattle.bit_blocks.specs.RunsLeft.{runs_left}
use Rattle.bit_blocks.proofs.ranged.list_of.Given as goal

abbrev pub invariant-loop-number : goal.invariant-loop-number
invariant-loop-number l = runs_left l.initial.left ≡ l.numbers.items ++ runs_left l.left

abbrev pub decreases-loop-number : goal.decreases-loop-number
decreases-loop-number l = length (runs_left l.left)
