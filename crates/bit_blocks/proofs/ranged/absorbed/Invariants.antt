use Rattle.std.proofs.Common.{◌-◌, length}
use Rattle.bit_blocks.proofs.Absorbed.{AbsorbsTo}
use Rattle.bit_blocks.proofs.ranged.absorbed.Given as goal

abbrev pub invariant-loop-upto : goal.invariant-loop-upto
invariant-loop-upto l = AbsorbsTo l.runs l.from l.fn.run l.all l.upto

abbrev pub decreases-loop-upto : goal.decreases-loop-upto
decreases-loop-upto l = length l.runs - l.upto
