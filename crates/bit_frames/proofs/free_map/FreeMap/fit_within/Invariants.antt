use Rattle.std.proofs.Common.{◌-◌, ◌<◌, ◌≤◌, ℕ, length}
use Rattle.bit_frames.specs.FreeMap.{AreFree}
use Rattle.bit_frames.proofs.free_map.FreeMap.fit_within.Given as goal

abbrev pub invariant-loop-first : goal.invariant-loop-first
invariant-loop-first l = record {
  begins : l.from ≤ l.at;
  none : (k : ℕ) → l.from ≤ k → k < l.at → AreFree l.self l.count k → ⊥;
}

abbrev pub decreases-loop-first : goal.decreases-loop-first
decreases-loop-first l = length l.self - l.at
