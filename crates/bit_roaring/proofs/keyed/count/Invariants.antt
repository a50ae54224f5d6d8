use Rattle.std.proofs.Common.{length, drop}
use Rattle.bit_roaring.specs.Keyed.{set_numbers}
use Rattle.bit_roaring.proofs.Counted.{CountedTo}
use Rattle.bit_roaring.proofs.keyed.count.Given as goal

abbrev pub invariant-loop-keyed : goal.invariant-loop-keyed
invariant-loop-keyed l = CountedTo l.blocks l.keyed-index l.count (length (set_numbers (drop l.keyed-index l.blocks))) (length (set_numbers l.blocks))
