use Rattle.std.proofs.Common.{◌≡◌, ◌++◌, ◌<◌, ◌≤◌, length}
use Rattle.bit_addressing.specs.Typed.{row}
use Rattle.bit_containers.specs.BitVec.{Grew}
use Rattle.bit_containers.proofs.vec.BitVec.extend_by_words.Given as goal

abbrev pub invariant-loop-word : goal.invariant-loop-word
invariant-loop-word g l = record {
  can : (goal.iterator-loop-word g).can_next l.word-iterator;
  finite : (goal.iterator-loop-word g).is_finite l.word-iterator;
  list : l.self.list ≡ l.fn.self.list ++ row g.T.BitStore g.O.BitOrder l.yielded;
  grew : Grew g.T.BitStore.BITS l.fn.self l.self (row g.T.BitStore g.O.BitOrder l.yielded);
  capacity : l.fn.self.capacity ≤ l.self.capacity;
  grown : l.fn.self.capacity < l.self.capacity → l.fn.self.capacity < length l.self.list;
}
