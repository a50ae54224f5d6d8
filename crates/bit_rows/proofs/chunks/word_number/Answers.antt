use Rattle.std.proofs.Common.{arith}
use Rattle.bit_addressing.proofs.Chunks.{word_is}
use Rattle.bit_addressing.proofs.Rows.{width_positive, width_small}
use Rattle.bit_rows.proofs.chunks.word_number.Goals as goal

pub returns : goal.returns
returns g c =
    let w = g.T.BitStore.BITS in
    word_is g.O.BitOrder.place w (g.T.BitStore.value c.args.word) (g.T.BitStore.value c.to_lsb0.result) c.to_u64.result (width_positive w g.met.T.BitStore.width) (width_small w g.met.T.BitStore.width) (omega arith) c.to_lsb0.ensures c.to_u64.ensures.low c.to_u64.ensures.high
