use Rattle.bit_blocks.proofs.Grouped.{GroupedTo}
use Rattle.bit_blocks.proofs.ranged.runs_of.Given as goal

abbrev pub invariant-loop-i : goal.invariant-loop-i
invariant-loop-i l = GroupedTo l.numbers l.runs.items l.i l.first l.last
