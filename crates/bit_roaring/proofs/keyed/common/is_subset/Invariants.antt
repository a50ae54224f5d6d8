use Rattle.bit_blocks.specs.Numbers.{has}
use Rattle.bit_roaring.specs.Keyed.{set_numbers}
use Rattle.bit_roaring.proofs.Counted.{AllPass}
use Rattle.bit_roaring.proofs.keyed.common.is_subset.Given as goal

abbrev pub invariant-loop-keyed : goal.invariant-loop-keyed
invariant-loop-keyed l = AllPass (has (set_numbers l.others)) l.blocks l.keyed-index
