use Rattle.std.proofs.Common.{drop}
use Rattle.bit_blocks.specs.Form.{numbers_of}
use Rattle.bit_blocks.specs.Numbers.{count_where, has}
use Rattle.bit_blocks.specs.Runs.{run_numbers}
use Rattle.bit_blocks.proofs.Summing.{SummedTo}
use Rattle.bit_blocks.proofs.form.count_each.Given as goal

abbrev pub invariant-loop-run : goal.invariant-loop-run
invariant-loop-run l = SummedTo l.count (count_where (has (numbers_of l.form)) (run_numbers (drop l.run-index l.runs))) (count_where (has (numbers_of l.form)) (run_numbers l.runs))
