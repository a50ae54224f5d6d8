use Rattle.std.proofs.Common.{◌-◌, ◌<◌, ◌≤◌, ℕ}
use Rattle.bit_frames.specs.FreeMap.{AreFree}
use Rattle.bit_frames.proofs.free_map.FreeMap.find_next_fit.Given as goal

abbrev pub invariant-scan : goal.invariant-scan
invariant-scan l = record {
  begins : l.from ≤ l.start;
  inside : l.at ≤ l.frames;
  none : (k : ℕ) → l.from ≤ k → k < l.start → AreFree l.self l.count k → ⊥;
}

abbrev pub decreases-scan : goal.decreases-scan
decreases-scan l = l.frames - l.at
