use Rattle.std.proofs.Common.{◌^◌, arith}
use Rattle.bit_blocks.specs.Numbers.{has}
use Rattle.bit_blocks.proofs.Ascending.{few_numbers}
use Rattle.bit_blocks.proofs.Counting.{count_most}
use Rattle.bit_roaring.proofs.Sets.{counted_others}
use Rattle.bit_roaring.proofs.set.RoaringSet.count_difference.Goals as goal

pub overflow_sub-result : goal.overflow_sub-result
overflow_sub-result c =
    let most = count_most (has c.args.other.now) c.args.self.now in
    omega (arith, c.len.ensures.value, c.count_intersection.ensures)

pub returns-clause-value : goal.returns-clause-value
returns-clause-value c = counted_others (has c.args.other.now) c.args.self.now c.len.result c.count_intersection.result c.len.ensures.value c.count_intersection.ensures

pub returns-clause-few : goal.returns-clause-few
returns-clause-few c = omega (arith, c.len.ensures.value)

pub returns-clause-most : goal.returns-clause-most
returns-clause-most c =
    let few = few_numbers 0 (2 ^ 32) c.args.self.now (omega arith) c.len.ensures.ascends in
    omega (arith, c.len.ensures.value)
