use Rattle.std.proofs.Common.{◌≡◌, ◌++◌, replicate, drop}
use Rattle.bit_containers.proofs.vec.elements.set_words.Given as goal

abbrev pub invariant-loop-slot : goal.invariant-loop-slot
invariant-loop-slot g l = l.slot-items ≡ replicate l.slot-index l.fn.word ++ drop l.slot-index l.fn.words
