use Rattle.std.proofs.Common.{ap, arith}
use Rattle.bit_blocks.specs.Numbers.{count_where, has}
use Rattle.bit_blocks.proofs.Counting.{count_most}
use Rattle.bit_roaring.specs.Keyed.{keyed_numbers, set_numbers}
use Rattle.bit_roaring.proofs.Counted.{both_block, few_in_set}
use Rattle.bit_roaring.proofs.keyed.common.count_in.Goals as goal

pub overflow_add-count : goal.overflow_add-count
overflow_add-count c =
    let p = has (set_numbers c.args.others.now) in
    let more = both_block p c.args.blocks.now c.loop-keyed.keyed-index c.keyed-item.result c.loop-keyed-test.true in
    let same = ap (λ b. count_where p (keyed_numbers b)) c.keyed-item.is in
    let most = count_most p (set_numbers c.args.blocks.now) in
    let few = few_in_set c.args.blocks.now c.requires.left in
    omega (arith, c.loop-keyed.invariant.sum, c.count_at-count.ensures.value)

pub loop-keyed-preserved : goal.loop-keyed-preserved
loop-keyed-preserved c =
    let p = has (set_numbers c.args.others.now) in
    let more = both_block p c.args.blocks.now c.loop-keyed.keyed-index c.keyed-item.result c.loop-keyed-test.true in
    let same = ap (λ b. count_where p (keyed_numbers b)) c.keyed-item.is in
    record { within = omega arith; sum = omega (arith, c.loop-keyed.invariant.sum, c.count_at-count.ensures.value) }
