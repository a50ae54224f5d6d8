use Rattle.std.proofs.Common.{◌∙◌, arith}
use Rattle.bit_addressing.proofs.Packs.{same_word}
use Rattle.bit_addressing.proofs.Rows.{width_positive}
use Rattle.bit_rows.proofs.chunks.word_alike.Goals as goal

pub returns : goal.returns
returns g c =
    let w = g.T.BitStore.BITS in
    same_word g.O.BitOrder.place g.P.BitOrder.place w g.U.BitStore.BITS (g.T.BitStore.value c.from_u64.result) (g.U.BitStore.value c.args.word) (width_positive w g.met.T.BitStore.width) c.requires.alike.width
    (g.met.O.BitOrder.lawful w g.met.T.BitStore.width) c.requires.alike.order (λ p h. c.from_u64.ensures p h ∙ c.to_u64.ensures.low p (omega arith))
