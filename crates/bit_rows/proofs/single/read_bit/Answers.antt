use Rattle.std.proofs.Common.{◌/◌, ap}
use Rattle.bit_addressing.proofs.Rows.{width_positive}
use Rattle.bit_addressing.proofs.Typed.{row_read}
use Rattle.bit_rows.proofs.single.read_bit.Goals as goal

pub returns : goal.returns
returns g c = row_read g.T.BitStore.value g.O.BitOrder.place g.T.BitStore.BITS c.args.words.now c.args.at _ c.into_inner-place.result c.index-words-at.result c.bit.result (width_positive _ g.met.T.BitStore.width) c.requires
    (ap (λ n. c.args.at / n) c.BITS-width.ensures) (cc) c.index-words-at.is c.bit.ensures
