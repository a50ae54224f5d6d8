use Rattle.std.proofs.Common.{arith}
use Rattle.bit_addressing.proofs.Rows.{width_positive}
use Rattle.bit_slice.proofs.Reversing.{no_word_reversed, one_word_reversed}
use Rattle.bit_slice.proofs.edits.reverse.reverse_middle.Goals as goal

pub returns-then-words-eq1-clause-bits : goal.returns-then-words-eq1-clause-bits
returns-then-words-eq1-clause-bits g c =
    let w = g.T.BitStore.BITS in
    one_word_reversed g.O.BitOrder.place w (width_positive w g.met.T.BitStore.width) (g.met.O.BitOrder.lawful w g.met.T.BitStore.width) c.requires.mirrored g.T.BitStore.value c.args.words.now c.index-words-0.result c.reverse.result
    (omega arith) c.index-words-0.is c.reverse.ensures

pub returns-else-words-eq1-clause-bits : goal.returns-else-words-eq1-clause-bits
returns-else-words-eq1-clause-bits g c =
    let w = g.T.BitStore.BITS in
    no_word_reversed g.O.BitOrder.place w (width_positive w g.met.T.BitStore.width) (g.met.O.BitOrder.lawful w g.met.T.BitStore.width) c.requires.mirrored g.T.BitStore.value c.args.words.now (omega arith)
