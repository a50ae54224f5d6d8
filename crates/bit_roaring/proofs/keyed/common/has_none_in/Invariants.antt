use Rattle.bit_blocks.specs.Numbers.{has}
use Rattle.bit_roaring.specs.Keyed.{set_numbers}
use Rattle.bit_roaring.proofs.Counted.{NonePass}
use Rattle.bit_roaring.proofs.keyed.common.has_none_in.Given as goal

abbrev pub invariant-loop-keyed : goal.invariant-loop-keyed
invariant-loop-keyed l = NonePass (has (set_numbers l.others)) l.blocks l.keyed-index
