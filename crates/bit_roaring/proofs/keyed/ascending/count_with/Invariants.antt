use Rattle.std.proofs.Common.{◌≡◌, ℕ, ◌-◌, ◌/◌, ◌<◌, ◌≤◌, get_or, length}
use Rattle.bit_roaring.proofs.keyed.ascending.count_with.Given as goal

abbrev pub invariant-loop-count : goal.invariant-loop-count
invariant-loop-count l = record {
  within : l.count ≤ length l.numbers;
  same : (i d : ℕ) → i < l.count → get_or l.numbers i d / 65536 ≡ l.key;
}

abbrev pub decreases-loop-count : goal.decreases-loop-count
decreases-loop-count l = length l.numbers - l.count
