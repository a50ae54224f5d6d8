use Rattle.std.proofs.Common.{◌≡◌, ◌≤◌, ◌-◌, length}
use Rattle.std.specs.Prelude.{◌⊎◌}
use Rattle.bit_frames.specs.FreeMap.{IsBestBelow, IsFree}
use Rattle.bit_frames.proofs.free_map.FreeMap.best_run.Given as goal

abbrev pub invariant-loop-first : goal.invariant-loop-first
invariant-loop-first l = record {
  best : IsBestBelow l.self l.count l.from l.best;
  edge : (l.from ≡ 0) ⊎ (IsFree l.self l.from → ⊥);
  inside : l.from ≤ length l.self;
}

abbrev pub decreases-loop-first : goal.decreases-loop-first
decreases-loop-first l = length l.self - l.from
