use Rattle.bit_roaring.proofs.Ranged.{RangeMadeTo}
use Rattle.bit_roaring.proofs.keyed.ranges.of_range.Given as goal

abbrev pub invariant-loop-key : goal.invariant-loop-key
invariant-loop-key l = RangeMadeTo l.made.items l.first l.last l.key
