use Rattle.std.proofs.Common.{◌≡◌, ◌≤◌, length, inl, inr, arith}
use Rattle.bit_blocks.proofs.Counting.{counts_begun, counts_both, counts_done, counts_left, counts_right}
use Rattle.bit_blocks.proofs.listed.count_both.Goals as goal

pub loop-i-init : goal.loop-i-init
loop-i-init c = counts_begun c.args.left.now c.args.right.now

pub loop-i-preserved-then-x-y : goal.loop-i-preserved-then-x-y
loop-i-preserved-then-x-y c = counts_left c.args.left.now c.args.right.now c.loop-i.i c.loop-i.j c.loop-i.count c.requires.left c.requires.right c.loop-i.invariant c.loop-i-test.true c.if-j-right.true c.if-x-y.true

pub loop-i-preserved-then-y-x : goal.loop-i-preserved-then-y-x
loop-i-preserved-then-y-x c = counts_right c.args.left.now c.args.right.now c.loop-i.i c.loop-i.j c.loop-i.count c.requires.left c.requires.right c.loop-i.invariant c.loop-i-test.true c.if-j-right.true c.if-y-x.true

pub loop-i-preserved : goal.loop-i-preserved
loop-i-preserved c = counts_both c.args.left.now c.args.right.now c.loop-i.i c.loop-i.j c.loop-i.count c.requires.left c.requires.right c.loop-i.invariant c.loop-i-test.true c.if-j-right.true (omega arith)

pub returns-else-j-right : goal.returns-else-j-right
returns-else-j-right c =
    let rb : c.loop-i.j ≤ length c.args.right.now = c.loop-i.invariant.right in
    let past = c.if-j-right.false in
    let end : length c.args.right.now ≡ c.loop-i.j = omega arith in
    counts_done c.args.left.now c.args.right.now c.loop-i.i c.loop-i.j c.loop-i.count c.requires.left c.requires.right c.loop-i.invariant (inr end)

pub returns-after-loop-i : goal.returns-after-loop-i
returns-after-loop-i c =
    let lb : c.loop-i.i ≤ length c.args.left.now = c.loop-i.invariant.left in
    let past = c.loop-i-test.false in
    let end : length c.args.left.now ≡ c.loop-i.i = omega arith in
    counts_done c.args.left.now c.args.right.now c.loop-i.i c.loop-i.j c.loop-i.count c.requires.left c.requires.right c.loop-i.invariant (inl end)
