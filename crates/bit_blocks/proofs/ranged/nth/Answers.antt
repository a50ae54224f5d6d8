use Rattle.std.proofs.Common.{◌∙◌, refl, arith}
use Rattle.bit_blocks.specs.declared.ranged.Run.{Run}
use Rattle.bit_blocks.proofs.Runs.{nth_here, nth_later, run_ordered}
use Rattle.bit_blocks.proofs.ranged.nth.Goals as goal

abbrev none : Run
none = record { first = 0; last = 0 }

pub size_of-size-requires : goal.size_of-size-requires
size_of-size-requires c = (run_ordered 0 c.args.runs.now c.loop-run.run-index none c.requires c.loop-run-test.true).0

pub overflow_cast-result : goal.overflow_cast-result
overflow_cast-result c =
    let run = run_ordered 0 c.args.runs.now c.loop-run.run-index none c.requires c.loop-run-test.true in
    let ordered = run.0 in
    let most = run.1 in
    omega (arith, c.size_of-size.ensures, c.if-left-size.true)

pub overflow_add-result : goal.overflow_add-result
overflow_add-result c =
    let run = run_ordered 0 c.args.runs.now c.loop-run.run-index none c.requires c.loop-run-test.true in
    let ordered = run.0 in
    let most = run.1 in
    omega (arith, c.size_of-size.ensures, c.if-left-size.true)

pub returns-then-left-size : goal.returns-then-left-size
returns-then-left-size c =
    nth_here c.args.runs.now c.loop-run.run-index c.loop-run.left _ none c.loop-run-test.true (omega (arith, c.size_of-size.ensures, c.if-left-size.true)) refl ∙ c.loop-run.invariant

pub loop-run-preserved : goal.loop-run-preserved
loop-run-preserved c =
    nth_later c.args.runs.now c.loop-run.run-index c.loop-run.left _ none c.loop-run-test.true (omega (arith, c.size_of-size.ensures, c.if-left-size.false)) ∙ c.loop-run.invariant
