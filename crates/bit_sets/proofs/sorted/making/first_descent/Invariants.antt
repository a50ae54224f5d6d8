use Rattle.std.proofs.Common.{◌≡◌, ◌-◌, ◌<◌, get_or, take}
use Rattle.std.specs.List.Sorted.{IsNonDecreasing}
use Rattle.bit_sets.proofs.sorted.making.first_descent.Given as goal

abbrev pub invariant-loop-i : goal.invariant-loop-i
invariant-loop-i l = record {
  ascends : IsNonDecreasing (take l.i l.numbers);
  last : 0 < l.i → l.last ≡ get_or l.numbers (l.i - 1) 0;
  first : l.i ≡ 0 → l.last ≡ 0;
}
