use Rattle.bit_blocks.proofs.Spliced.{ClosedTo}
use Rattle.bit_blocks.proofs.splice.close_gap.Given as goal

abbrev pub invariant-loop-i : goal.invariant-loop-i
invariant-loop-i g l = ClosedTo l.fn.items.items l.items.items l.from l.upto l.i
