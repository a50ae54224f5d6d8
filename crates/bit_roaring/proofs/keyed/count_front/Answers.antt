use Rattle.std.proofs.Common.{◌<◌, ◌+◌, length, ap, arith}
use Rattle.bit_roaring.proofs.Counted.{few_in_set, front_few, front_more}
use Rattle.bit_roaring.proofs.keyed.count_front.Goals as goal

pub overflow_add-count : goal.overflow_add-count
overflow_add-count c =
    let d = c.index-blocks-i.result in
    let within = c.requires.within in
    let inside : c.loop-i.i < length c.args.blocks.now = omega (arith, c.loop-i-test.true) in
    let more = front_more c.args.blocks.now c.loop-i.i d inside in
    let most = front_few c.args.blocks.now (c.loop-i.i + 1) in
    let few = few_in_set c.args.blocks.now c.requires.keyed in
    let same = ap (λ b. length b.block) c.index-blocks-i.is in
    omega (arith, c.loop-i.invariant, c.len.ensures.value)

pub loop-i-preserved : goal.loop-i-preserved
loop-i-preserved c =
    let d = c.index-blocks-i.result in
    let within = c.requires.within in
    let inside : c.loop-i.i < length c.args.blocks.now = omega (arith, c.loop-i-test.true) in
    let more = front_more c.args.blocks.now c.loop-i.i d inside in
    let same = ap (λ b. length b.block) c.index-blocks-i.is in
    omega (arith, c.loop-i.invariant, c.len.ensures.value)
