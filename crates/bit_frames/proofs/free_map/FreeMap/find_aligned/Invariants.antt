use Rattle.std.proofs.Common.{◌≡◌, ◌≤◌, ◌<◌, ◌-◌, ◌%◌, ℕ, length}
use Rattle.bit_frames.specs.FreeMap.{AreFree}
use Rattle.bit_frames.proofs.free_map.FreeMap.find_aligned.Given as goal

abbrev pub invariant-loop-first : goal.invariant-loop-first
invariant-loop-first l = record {
  none : (i : ℕ) → i < l.from → i % l.align ≡ 0 → AreFree l.self l.count i → ⊥;
  inside : l.from ≤ length l.self;
}

abbrev pub decreases-loop-first : goal.decreases-loop-first
decreases-loop-first l = length l.self - l.from
