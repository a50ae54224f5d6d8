use Rattle.std.proofs.Common.{arith}
use Rattle.bit_blocks.specs.Form.{numbers_of}
use Rattle.bit_blocks.specs.Numbers.{has}
use Rattle.bit_blocks.proofs.Ascending.{few_numbers}
use Rattle.bit_blocks.proofs.Counting.{count_most}
use Rattle.bit_blocks.proofs.form.count_listed.Goals as goal

pub overflow_add-count : goal.overflow_add-count
overflow_add-count c =
    let most = count_most (has (numbers_of c.args.form.now)) c.args.numbers.now in
    let few = few_numbers 0 65536 c.args.numbers.now (omega arith) c.requires.numbers in
    omega (arith, c.loop-number.invariant.sum)
