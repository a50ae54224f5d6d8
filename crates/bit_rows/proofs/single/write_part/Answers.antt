use Rattle.std.proofs.Common.{arith}
use Rattle.bit_addressing.proofs.Rows.{width_positive}
use Rattle.bit_addressing.proofs.Typed.{row_mended}
use Rattle.bit_rows.proofs.single.write_part.Goals as goal

pub returns-clause-bits : goal.returns-clause-bits
returns-clause-bits g c =
    let w = g.T.BitStore.BITS in
    row_mended g.T.BitStore.value g.O.BitOrder.place w c.args.words.now c.args.k c.args.low c.args.high c.index-words-k.result c.args.new c.mask-mask.result c.blend.result (width_positive w g.met.T.BitStore.width) (g.met.O.BitOrder.lawful w g.met.T.BitStore.width)
    c.requires.word (omega arith) c.requires.within c.index-words-k.is (rw (c.new_unchecked.ensures, c.new_unchecked-2.ensures) at c.mask-mask.ensures) c.blend.ensures
