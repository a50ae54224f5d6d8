use Rattle.std.proofs.Common.{length, ◌∙◌, ap, arith}
use Rattle.bit_blocks.specs.Numbers.{numbers_between}
use Rattle.bit_blocks.proofs.Ascending.{counts_at_most}
use Rattle.bit_blocks.proofs.Between.{below_up}
use Rattle.bit_roaring.proofs.Counts.{few_byte, part_total}
use Rattle.bit_roaring.proofs.keyed.ranges.count_at.Goals as goal

pub overflow_sub-result : goal.overflow_sub-result
overflow_sub-result c =
    let less = below_up c.in-Some.block.now c.args.low c.args.high c.requires.ordered in
    omega (arith, c.rank.ensures, c.rank-in-Some.ensures)

pub overflow_add-result : goal.overflow_add-result
overflow_add-result c =
    let most = counts_at_most c.in-Some.block.now c.args.high in
    let few = few_byte c.contains.result in
    omega (arith, c.rank.ensures, c.from.ensures, c.len-len.ensures.value, c.len-len.ensures.few)

pub returns-in-Some : goal.returns-in-Some
returns-in-Some c =
    let total = part_total c.args.low c.args.high c.in-Some.block.now c.rank.result c.rank-in-Some.result c.from.result c.contains.result c.len-len.ensures.ascends c.requires.ordered c.rank.ensures c.rank-in-Some.ensures c.contains.ensures c.from.ensures in
    total.1 ∙ ap (λ l. length (numbers_between c.args.low c.args.high l)) c.in-Some.ensures
