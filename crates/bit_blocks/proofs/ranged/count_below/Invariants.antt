use Rattle.std.proofs.Common.{drop}
use Rattle.bit_blocks.specs.Numbers.{count_below}
use Rattle.bit_blocks.specs.Runs.{run_numbers}
use Rattle.bit_blocks.proofs.Runs.{CountedTo}
use Rattle.bit_blocks.proofs.ranged.count_below.Given as goal

abbrev pub invariant-loop-run : goal.invariant-loop-run
invariant-loop-run l = CountedTo l.runs l.run-index l.count (count_below (run_numbers (drop l.run-index l.runs)) l.number) (count_below (run_numbers l.runs) l.number)
