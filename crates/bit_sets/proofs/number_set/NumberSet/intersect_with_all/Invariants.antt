use Rattle.std.proofs.Common.{◌≡◌, ℕ, length, take}
use Rattle.std.specs.Prelude.{◌↔◌}
use Rattle.std.specs.List.{All}
use Rattle.bit_sets.specs.NumberSet.{IsIn}
use Rattle.bit_sets.proofs.number_set.NumberSet.intersect_with_all.Given as goal

abbrev pub invariant-loop-other : goal.invariant-loop-other
invariant-loop-other l = record {
  bound : length l.self ≡ length l.fn.self;
  members : (k : ℕ) → IsIn l.self k ↔ (IsIn l.fn.self k × All (λ s. IsIn s k) (take l.other-index l.others));
}
