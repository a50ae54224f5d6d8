use Rattle.std.proofs.Common.{arith}
use Rattle.bit_blocks.specs.declared.ranged.Run.{Run}
use Rattle.bit_blocks.proofs.Runs.{counted_run, few_in_runs, run_ordered}
use Rattle.bit_blocks.proofs.ranged.count.Goals as goal

abbrev none : Run
none = record { first = 0; last = 0 }

pub size_of-count-requires : goal.size_of-count-requires
size_of-count-requires c = (run_ordered 0 c.args.runs.now c.loop-run.run-index none c.requires c.loop-run-test.true).0

pub overflow_add-count : goal.overflow_add-count
overflow_add-count c =
    let more = counted_run c.args.runs.now c.loop-run.run-index none c.requires c.loop-run-test.true in
    let few = few_in_runs c.args.runs.now c.requires in
    omega (arith, c.loop-run.invariant.sum, c.size_of-count.ensures)

pub loop-run-preserved : goal.loop-run-preserved
loop-run-preserved c =
    let more = counted_run c.args.runs.now c.loop-run.run-index none c.requires c.loop-run-test.true in
    record { within = omega arith; sum = omega (arith, c.loop-run.invariant.sum, c.size_of-count.ensures) }
