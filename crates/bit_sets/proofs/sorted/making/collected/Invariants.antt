use Rattle.std.proofs.Common.{◌≡◌, ◌-◌, ◌<◌, get_or, length}
use Rattle.std.specs.List.Sorted.{IsNonDecreasing}
use Rattle.bit_sets.proofs.sorted.making.collected.Given as goal

abbrev pub invariant-loop-number : goal.invariant-loop-number
invariant-loop-number g l = record {
  can : (goal.iterator-loop-number g).can_next l.number-iterator;
  finite : (goal.iterator-loop-number g).is_finite l.number-iterator;
  items : l.numbers.items ≡ l.yielded;
  ascends : IsNonDecreasing l.yielded;
  last : 0 < length l.yielded → l.last ≡ get_or l.yielded (length l.yielded - 1) 0;
  first : length l.yielded ≡ 0 → l.last ≡ 0;
}
