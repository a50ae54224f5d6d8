use Rattle.bit_roaring.specs.Changes.{HasTaken}
use Rattle.bit_roaring.proofs.set.collect.RoaringSetFromIteratorU32.from_iter.Given as goal

abbrev pub invariant-loop-number : goal.invariant-loop-number
invariant-loop-number g l = record {
  can : (goal.iterator-loop-number g).can_next l.number-iterator;
  finite : (goal.iterator-loop-number g).is_finite l.number-iterator;
  taken : HasTaken l.set l.some.items l.yielded;
}
