use Rattle.std.proofs.Common.{◌≤◌, length}
use Rattle.bit_roaring.proofs.keyed.near.place_before.Given as goal

abbrev pub invariant-loop-low : goal.invariant-loop-low
invariant-loop-low l = (l.low ≤ l.high) × (l.high ≤ length l.blocks)

abbrev pub decreases-loop-low : goal.decreases-loop-low
decreases-loop-low l = l.low
