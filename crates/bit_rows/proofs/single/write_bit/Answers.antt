use Rattle.std.proofs.Common.{◌/◌, ap}
use Rattle.bit_addressing.proofs.Rows.{width_positive}
use Rattle.bit_addressing.proofs.Typed.{row_write}
use Rattle.bit_rows.proofs.single.write_bit.Goals as goal

pub returns-clause-bits : goal.returns-clause-bits
returns-clause-bits g c = row_write g.T.BitStore.value g.O.BitOrder.place g.T.BitStore.BITS c.args.words.now c.args.at _ c.into_inner-place.result c.index-words-at.result c.with_bit.result c.args.bit (width_positive _ g.met.T.BitStore.width)
    (g.met.O.BitOrder.lawful g.T.BitStore.BITS g.met.T.BitStore.width) c.requires (ap (λ n. c.args.at / n) c.BITS-width.ensures) (cc) c.index-words-at.is c.with_bit.ensures
