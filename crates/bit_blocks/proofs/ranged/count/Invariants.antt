use Rattle.std.proofs.Common.{length, drop}
use Rattle.bit_blocks.specs.Runs.{run_numbers}
use Rattle.bit_blocks.proofs.Runs.{CountedTo}
use Rattle.bit_blocks.proofs.ranged.count.Given as goal

abbrev pub invariant-loop-run : goal.invariant-loop-run
invariant-loop-run l = CountedTo l.runs l.run-index l.count (length (run_numbers (drop l.run-index l.runs))) (length (run_numbers l.runs))
