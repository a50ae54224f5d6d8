use Rattle.std.proofs.Common.{◌*◌, ap}
use Rattle.bit_addressing.proofs.Packs.{word_unpacked}
use Rattle.bit_streams.proofs.register.word_of_block.Goals as goal

pub returns : goal.returns
returns g c =
    let w = g.T.BitStore.BITS in
    word_unpacked g.O.BitOrder.place w c.args.i c.unpack.result c.args.block (g.T.BitStore.value c.from_u64.result) (c.args.i * c.BITS.result) g.met.T.BitStore.width (g.met.O.BitOrder.lawful w g.met.T.BitStore.width) c.requires
    (ap (λ n. c.args.i * n) c.BITS.ensures) c.unpack.ensures c.from_u64.ensures
