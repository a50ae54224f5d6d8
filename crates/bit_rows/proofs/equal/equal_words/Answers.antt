use Rattle.std.proofs.Common.{arith}
use Rattle.bit_addressing.proofs.Words.{word_fits}
use Rattle.bit_rows.proofs.equal.equal_words.Goals as goal

pub equal_word-requires-clause-left : goal.equal_word-requires-clause-left
equal_word-requires-clause-left g c = word_fits g.T.BitStore.value g.T.BitStore.BITS c.args.left.now c.loop-i.i c.index-left-i.result c.are_words.ensures (omega (arith, c.loop-i-test.true, c.loop-i.auto.i-end)) c.index-left-i.is

pub equal_word-requires-clause-right : goal.equal_word-requires-clause-right
equal_word-requires-clause-right g c = word_fits g.T.BitStore.value g.T.BitStore.BITS c.args.right.now c.loop-i.i c.index-right-i.result c.are_words-2.ensures (omega (arith, c.loop-i-test.true, c.if-len-right.false)) c.index-right-i.is
