use Rattle.std.proofs.Common.{map}
use Rattle.bit_addressing.proofs.Typed.{IsFlippedUpTo}
use Rattle.bit_rows.proofs.single.flip_words.Given as goal

abbrev pub invariant-loop-word : goal.invariant-loop-word
invariant-loop-word g l = IsFlippedUpTo g.T.BitStore.BITS (map g.T.BitStore.value l.fn.words) (map g.T.BitStore.value l.word-items) l.word-index
