use Rattle.bit_blocks.proofs.Joined.{BreaksTo}
use Rattle.bit_blocks.proofs.listed.count_runs.Given as goal

abbrev pub invariant-loop-i : goal.invariant-loop-i
invariant-loop-i l = BreaksTo l.numbers l.i l.last l.count
