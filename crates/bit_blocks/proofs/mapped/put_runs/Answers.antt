use Rattle.std.proofs.Common.{◌||◌, refl, arith}
use Rattle.bit_blocks.specs.declared.ranged.Run.{Run}
use Rattle.bit_blocks.proofs.Bits.{all_runs_in, one_run_in, ones_combine}
use Rattle.bit_blocks.specs.Runs.{run_numbers}
use Rattle.bit_blocks.proofs.Runs.{run_ordered}
use Rattle.bit_blocks.proofs.mapped.put_runs.Goals as goal

abbrev none : Run
none = record { first = 0; last = 0 }

pub fill_range-requires : goal.fill_range-requires
fill_range-requires c =
    let run = run_ordered 0 c.args.runs.now c.loop-run.run-index none c.requires.runs c.loop-run-test.true in
    let ordered = run.0 in
    let most = run.1 in
    let size = c.loop-run.invariant.size in
    record { lies = (omega arith, omega arith) }

pub loop-run-preserved : goal.loop-run-preserved
loop-run-preserved c =
    let run = run_ordered 0 c.args.runs.now c.loop-run.run-index none c.requires.runs c.loop-run-test.true in
    let ordered = run.0 in
    let most = run.1 in
    one_run_in c.args.bits.now.list c.loop-run.bits.list c.fill_range.new.self.list c.args.runs.now c.loop-run.run-index _ _ none c.loop-run-test.true refl (omega arith) run.1 c.loop-run.invariant c.fill_range.ensures.list

pub returns-clause-members : goal.returns-clause-members
returns-clause-members c =
    ones_combine (λ x y. x || y) c.args.bits.now.list (run_numbers c.args.runs.now) c.loop-run.bits.list c.requires.size c.loop-run.invariant.size
    (all_runs_in c.args.bits.now.list c.loop-run.bits.list c.args.runs.now c.loop-run.run-index c.requires.runs c.loop-run-test.false c.loop-run.invariant)
