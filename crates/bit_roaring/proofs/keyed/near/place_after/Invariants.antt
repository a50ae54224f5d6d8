use Rattle.std.proofs.Common.{◌≤◌, ◌-◌, length}
use Rattle.bit_roaring.proofs.keyed.near.place_after.Given as goal

abbrev pub invariant-loop-high : goal.invariant-loop-high
invariant-loop-high l = (l.low ≤ l.high) × (l.high ≤ length l.blocks)

abbrev pub decreases-loop-high : goal.decreases-loop-high
decreases-loop-high l = length l.blocks - l.low
