use Rattle.bit_sets.specs.InTurn.{HasTaken}
use Rattle.bit_sets.proofs.number_set.NumberSet.extend.Given as goal

abbrev pub invariant-loop-number : goal.invariant-loop-number
invariant-loop-number g l = record {
  can : (goal.iterator-loop-number g).can_next l.number-iterator;
  finite : (goal.iterator-loop-number g).is_finite l.number-iterator;
  taken : HasTaken l.fn.self l.self l.yielded;
}
