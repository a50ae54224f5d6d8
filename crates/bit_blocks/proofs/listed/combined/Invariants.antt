use Rattle.std.proofs.Common.{length, ◌-◌, ◌+◌}
use Rattle.bit_blocks.proofs.Merging.{ReadTo}
use Rattle.bit_blocks.proofs.listed.combined.Given as goal

abbrev pub invariant-loop-i : goal.invariant-loop-i
invariant-loop-i l = ReadTo l.operation l.left l.right l.made.items l.i l.j

abbrev pub decreases-loop-i : goal.decreases-loop-i
decreases-loop-i l = (length l.left - l.i) + (length l.right - l.j)
