use Rattle.std.proofs.Common.{arith}
use Rattle.bit_blocks.specs.declared.ranged.Run.{Run}
use Rattle.bit_blocks.proofs.Ascending.{counts_at_most}
use Rattle.bit_blocks.specs.Runs.{run_numbers}
use Rattle.bit_blocks.proofs.Runs.{below_none, below_run, few_in_runs, run_ordered}
use Rattle.bit_blocks.proofs.ranged.count_below.Goals as goal

abbrev none : Run
none = record { first = 0; last = 0 }

pub returns-then-number-run : goal.returns-then-number-run
returns-then-number-run c =
    let rest = below_none c.args.runs.now c.loop-run.run-index c.args.number none c.requires c.loop-run-test.true c.if-number-run.true in
    omega (arith, c.loop-run.invariant.sum)

pub overflow_sub-count : goal.overflow_sub-count
overflow_sub-count c =
    let ordered = (run_ordered 0 c.args.runs.now c.loop-run.run-index none c.requires c.loop-run-test.true).0 in
    omega (arith, c.min.ensures, c.if-number-run.false)

pub overflow_add-count : goal.overflow_add-count
overflow_add-count c =
    let more = below_run c.args.runs.now c.loop-run.run-index c.args.number none c.requires c.loop-run-test.true c.if-number-run.false in
    let few = few_in_runs c.args.runs.now c.requires in
    let most = counts_at_most (run_numbers c.args.runs.now) c.args.number in
    omega (arith, c.loop-run.invariant.sum, c.min.ensures)

pub loop-run-preserved : goal.loop-run-preserved
loop-run-preserved c =
    let more = below_run c.args.runs.now c.loop-run.run-index c.args.number none c.requires c.loop-run-test.true c.if-number-run.false in
    record { within = omega arith; sum = omega (arith, c.loop-run.invariant.sum, c.min.ensures) }
