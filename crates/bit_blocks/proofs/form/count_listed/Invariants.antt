use Rattle.std.proofs.Common.{drop}
use Rattle.bit_blocks.specs.Form.{numbers_of}
use Rattle.bit_blocks.specs.Numbers.{count_where, has}
use Rattle.bit_blocks.proofs.Summing.{SummedTo}
use Rattle.bit_blocks.proofs.form.count_listed.Given as goal

abbrev pub invariant-loop-number : goal.invariant-loop-number
invariant-loop-number l = SummedTo l.count (count_where (has (numbers_of l.form)) (drop l.number-index l.numbers)) (count_where (has (numbers_of l.form)) l.numbers)
