use Rattle.std.proofs.Common.{arith}
use Rattle.bit_blocks.specs.Numbers.{has}
use Rattle.bit_blocks.specs.Runs.{run_numbers}
use Rattle.bit_blocks.specs.declared.ranged.Run.{Run}
use Rattle.bit_blocks.proofs.Counting.{count_most}
use Rattle.bit_blocks.proofs.Overlaps.{left_done, overlaps_done, right_done}
use Rattle.bit_blocks.proofs.Runs.{few_in_runs}
use Rattle.bit_blocks.proofs.ranged.count_both.Goals as goal

abbrev none : Run
none = record { first = 0; last = 0 }

pub overflow_add-count : goal.overflow_add-count
overflow_add-count c =
    let low = c.max-first.ensures in
    let high = c.min.ensures in
    let at = c.loop-i.auto.count-fits in
    let most = count_most (has (run_numbers c.args.right.now)) (run_numbers c.args.left.now) in
    let few = few_in_runs c.args.left.now c.requires.left in
    let sum = c.loop-i.invariant.sum in
    omega (arith, c.saturating_sub-count.ensures)

pub loop-i-preserved-then-run-other : goal.loop-i-preserved-then-run-other
loop-i-preserved-then-run-other c =
    let at = c.loop-i in
    let step = left_done c.args.left.now c.args.right.now at.i at.j none c.requires.left c.requires.right c.loop-i-test.true c.if-j-right.true c.if-run-other.true in
    record { left = omega arith; right = at.invariant.right; sum = omega (arith, at.invariant.sum, c.max-first.ensures, c.min.ensures, c.saturating_sub-count.ensures) }

pub loop-i-preserved : goal.loop-i-preserved
loop-i-preserved c =
    let at = c.loop-i in
    let step = right_done c.args.left.now c.args.right.now at.i at.j none c.requires.left c.requires.right c.loop-i-test.true c.if-j-right.true (omega (arith, c.if-run-other.false)) in
    record { left = at.invariant.left; right = omega arith; sum = omega (arith, at.invariant.sum, c.max-first.ensures, c.min.ensures, c.saturating_sub-count.ensures) }

pub returns-else-j-right : goal.returns-else-j-right
returns-else-j-right c = (overlaps_done c.args.left.now c.args.right.now c.loop-i.i c.loop-i.j c.loop-i.count c.loop-i.invariant).1 (omega (arith, c.if-j-right.false))

pub returns-after-loop-i : goal.returns-after-loop-i
returns-after-loop-i c = (overlaps_done c.args.left.now c.args.right.now c.loop-i.i c.loop-i.j c.loop-i.count c.loop-i.invariant).0 (omega (arith, c.loop-i-test.false))
