use Rattle.std.proofs.Common.{refl, arith}
use Rattle.bit_addressing.proofs.Rows.{width_positive}
use Rattle.bit_addressing.proofs.Typed.{flip_word, flip_all}
use Rattle.bit_rows.proofs.single.flip_words.Goals as goal

pub loop-word-init : goal.loop-word-init
loop-word-init g c = record { size = refl; done = λ k p h q. absurd (omega arith); rest = λ k h. refl }

pub loop-word-preserved : goal.loop-word-preserved
loop-word-preserved g c = flip_word g.T.BitStore.value g.O.BitOrder.place g.T.BitStore.BITS c.args.words.now c.loop-word.word-items c.loop-word.word-index c.word-item.result c.not.result (omega arith) c.loop-word.invariant c.not.ensures

pub returns-clause-bits : goal.returns-clause-bits
returns-clause-bits g c = flip_all g.T.BitStore.value g.O.BitOrder.place g.T.BitStore.BITS c.args.words.now c.loop-word.word-items c.loop-word.word-index c.loop-word-test.false (width_positive _ g.met.T.BitStore.width) (g.met.O.BitOrder.lawful g.T.BitStore.BITS g.met.T.BitStore.width) c.loop-word.invariant
