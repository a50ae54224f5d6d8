use Rattle.bit_blocks.proofs.Bits.{RunsAreIn}
use Rattle.bit_blocks.proofs.mapped.put_runs.Given as goal

abbrev pub invariant-loop-run : goal.invariant-loop-run
invariant-loop-run l = RunsAreIn l.initial.bits.list l.bits.list l.runs l.run-index
