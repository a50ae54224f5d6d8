use Rattle.std.proofs.Common.{drop}
use Rattle.bit_blocks.specs.Numbers.{count_where, has}
use Rattle.bit_roaring.specs.Keyed.{set_numbers}
use Rattle.bit_roaring.proofs.Counted.{CountedTo}
use Rattle.bit_roaring.proofs.keyed.common.count_in.Given as goal

abbrev pub invariant-loop-keyed : goal.invariant-loop-keyed
invariant-loop-keyed l = CountedTo l.blocks l.keyed-index l.count (count_where (has (set_numbers l.others)) (set_numbers (drop l.keyed-index l.blocks))) (count_where (has (set_numbers l.others)) (set_numbers l.blocks))
