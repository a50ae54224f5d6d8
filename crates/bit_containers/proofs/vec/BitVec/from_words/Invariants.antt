use Rattle.std.proofs.Common.{◌≡◌, ◌*◌, ◌≤◌, length}
use Rattle.bit_addressing.specs.declared.length.TheConstants.{MAX_BITS}
use Rattle.bit_containers.proofs.vec.BitVec.from_words.Given as goal

abbrev pub invariant-loop-word : goal.invariant-loop-word
invariant-loop-word g l = record {
  can : (goal.iterator-loop-word g).can_next l.word-iterator;
  finite : (goal.iterator-loop-word g).is_finite l.word-iterator;
  words : l.words.items ≡ l.yielded;
  few : g.T.BitStore.BITS * length l.words.items ≤ MAX_BITS;
}
