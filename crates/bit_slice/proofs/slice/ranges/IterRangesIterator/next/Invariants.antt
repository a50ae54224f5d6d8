use Rattle.std.proofs.Common.{◌≡◌, length}
use Rattle.bit_slice.specs.BitRuns.{runs_left}
use Rattle.bit_slice.specs.BitRuns.{ranges_left}
use Rattle.bit_slice.proofs.slice.ranges.IterRangesIterator.next.Given as goal

abbrev pub invariant-loop-run : goal.invariant-loop-run
invariant-loop-run g l = ranges_left l.self ≡ ranges_left l.fn.self

abbrev pub decreases-loop-run : goal.decreases-loop-run
decreases-loop-run g l = length (runs_left l.self.runs)
