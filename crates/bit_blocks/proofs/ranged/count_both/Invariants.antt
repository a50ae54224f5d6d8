use Rattle.std.proofs.Common.{length, ◌-◌, ◌+◌}
use Rattle.bit_blocks.proofs.Overlaps.{OverlapsTo}
use Rattle.bit_blocks.proofs.ranged.count_both.Given as goal

abbrev pub invariant-loop-i : goal.invariant-loop-i
invariant-loop-i l = OverlapsTo l.left l.right l.i l.j l.count

abbrev pub decreases-loop-i : goal.decreases-loop-i
decreases-loop-i l = (length l.left - l.i) + (length l.right - l.j)
