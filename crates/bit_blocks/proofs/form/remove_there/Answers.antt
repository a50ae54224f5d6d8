use Rattle.std.proofs.Common.{arith}
use Rattle.bit_blocks.specs.Runs.{AreRuns}
use Rattle.bit_blocks.proofs.Sizes.{runs_lost}
use Rattle.bit_blocks.proofs.form.remove_there.Goals as goal

pub settle-requires-clause-count : goal.settle-requires-clause-count
settle-requires-clause-count c =
    let runs : AreRuns c.in-Ranged.runs.items = rw c.in-Ranged.is at c.requires.form in
    let size = rw c.in-Ranged.is at c.requires.count in
    let there = rw c.in-Ranged.is at c.requires.there in
    let less = runs_lost c.in-Ranged.runs.items c.remove_run.new.runs.items c.args.number runs c.remove_run.ensures.runs there c.in_ok-remove_run.ensures.loses in
    omega (arith, size)
