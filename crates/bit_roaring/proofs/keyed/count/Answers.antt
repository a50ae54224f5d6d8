use Rattle.std.proofs.Common.{length, ap, arith}
use Rattle.bit_roaring.proofs.Counted.{counted_block, few_in_set}
use Rattle.bit_roaring.proofs.keyed.count.Goals as goal

pub overflow_add-count : goal.overflow_add-count
overflow_add-count c =
    let d = c.keyed-item.result in
    let more = counted_block c.args.blocks.now c.loop-keyed.keyed-index d c.loop-keyed-test.true in
    let few = few_in_set c.args.blocks.now c.requires in
    let same = ap (λ b. length b.block) c.keyed-item.is in
    omega (arith, c.loop-keyed.invariant.sum, c.len.ensures.value)

pub loop-keyed-preserved : goal.loop-keyed-preserved
loop-keyed-preserved c =
    let d = c.keyed-item.result in
    let more = counted_block c.args.blocks.now c.loop-keyed.keyed-index d c.loop-keyed-test.true in
    let same = ap (λ b. length b.block) c.keyed-item.is in
    record { within = omega arith; sum = omega (arith, c.loop-keyed.invariant.sum, c.len.ensures.value) }
