use Rattle.std.proofs.Common.{◌+◌, drop, get_or, ◌∙◌, ap, arith}
use Rattle.bit_blocks.specs.Form.{numbers_of}
use Rattle.bit_blocks.specs.Numbers.{count_where, has}
use Rattle.bit_blocks.specs.Runs.{numbers_of_run, run_numbers}
use Rattle.bit_blocks.specs.declared.ranged.Run.{Run}
use Rattle.bit_blocks.proofs.Counting.{count_append, count_most}
use Rattle.bit_blocks.proofs.Runs.{few_in_runs, from_run, run_ordered}
use Rattle.bit_blocks.proofs.form.count_each.Goals as goal

abbrev none : Run
none = record { first = 0; last = 0 }

pub count_in-count-requires-clause-run : goal.count_in-count-requires-clause-run
count_in-count-requires-clause-run c = (run_ordered 0 c.args.runs.now c.loop-run.run-index none c.requires.runs c.loop-run-test.true).0

pub overflow_add-count : goal.overflow_add-count
overflow_add-count c =
    let p = has (numbers_of c.args.form.now) in
    let most = count_most p (run_numbers c.args.runs.now) in
    let few = few_in_runs c.args.runs.now c.requires.runs in
    let more = (run_ordered 0 c.args.runs.now c.loop-run.run-index none c.requires.runs c.loop-run-test.true).1 in
    omega (arith, c.loop-run.invariant.sum, c.count_in-count.ensures.few)

pub loop-run-preserved : goal.loop-run-preserved
loop-run-preserved c =
    let p = has (numbers_of c.args.form.now) in
    let runs = c.args.runs.now in
    let i = c.loop-run.run-index in
    let parts = ap (count_where p) (from_run runs i none c.loop-run-test.true) ∙ count_append p (numbers_of_run (get_or runs i none)) (run_numbers (drop (i + 1) runs)) in
    record { sum = omega (arith, c.loop-run.invariant.sum, c.count_in-count.ensures.value) }
