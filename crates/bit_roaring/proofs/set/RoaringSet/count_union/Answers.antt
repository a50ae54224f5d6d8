use Rattle.std.proofs.Common.{◌^◌, arith}
use Rattle.bit_blocks.proofs.Ascending.{few_numbers}
use Rattle.bit_roaring.proofs.set.RoaringSet.count_union.Goals as goal

pub overflow_add-result : goal.overflow_add-result
overflow_add-result c =
    let few = few_numbers 0 (2 ^ 32) c.args.other.now (omega arith) c.len.ensures.ascends in
    omega (arith, c.len.ensures.value, c.count_difference.ensures.most)
