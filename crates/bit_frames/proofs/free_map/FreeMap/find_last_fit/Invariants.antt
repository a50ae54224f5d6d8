use Rattle.std.proofs.Common.{◌+◌, ◌<◌, ◌≤◌, ℕ, length}
use Rattle.bit_frames.specs.FreeMap.{AreFree}
use Rattle.bit_frames.proofs.free_map.FreeMap.find_last_fit.Given as goal

abbrev pub invariant-loop-last : goal.invariant-loop-last
invariant-loop-last l = record {
  none : (i : ℕ) → l.upto < i + l.count → AreFree l.self l.count i → ⊥;
  inside : l.upto ≤ length l.self;
}

abbrev pub decreases-loop-last : goal.decreases-loop-last
decreases-loop-last l = l.upto
