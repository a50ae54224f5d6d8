use Rattle.std.proofs.Common.{arith}
use Rattle.bit_blocks.specs.Runs.{AreRuns}
use Rattle.bit_blocks.proofs.Forms.{few_of_form}
use Rattle.bit_blocks.proofs.Sizes.{runs_gained}
use Rattle.bit_blocks.proofs.form.insert_new.Goals as goal

pub overflow_add-count : goal.overflow_add-count
overflow_add-count c = let few = few_of_form c.args.form.now c.requires.form in omega (arith, c.requires.count)

pub settle-requires-clause-count : goal.settle-requires-clause-count
settle-requires-clause-count c =
    let runs : AreRuns c.in-Ranged.runs.items = rw c.in-Ranged.is at c.requires.form in
    let size = rw c.in-Ranged.is at c.requires.count in
    let out = rw c.in-Ranged.is at c.requires.new in
    let more = runs_gained c.in-Ranged.runs.items c.insert_run.new.runs.items c.args.number runs c.insert_run.ensures.runs c.ranges.number.fits out c.in_ok-insert_run.ensures.gains in
    omega (arith, size)
