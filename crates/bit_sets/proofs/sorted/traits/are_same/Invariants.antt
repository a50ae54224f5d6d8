use Rattle.std.proofs.Common.{◌≡◌, length}
use Rattle.std.specs.Prelude.{◌↔◌}
use Rattle.bit_sets.specs.Numbers.{numbers_left}
use Rattle.bit_sets.proofs.sorted.traits.are_same.Given as goal

abbrev pub invariant-loop-number : goal.invariant-loop-number
invariant-loop-number l = record {
  same : (numbers_left l.initial.numbers ≡ numbers_left l.initial.others) ↔ (numbers_left l.numbers ≡ numbers_left l.others);
}

abbrev pub decreases-loop-number : goal.decreases-loop-number
decreases-loop-number l = length (numbers_left l.numbers)
