use Rattle.std.proofs.Common.{◌<◌, arith}
use Rattle.bit_addressing.proofs.Rows.{width_positive}
use Rattle.bit_addressing.proofs.Shifts.{pair_row}
use Rattle.bit_rows.proofs.chunks.word_by_table.Goals as goal

pub returns : goal.returns
returns g c =
    let w = g.T.BitStore.BITS in
    let skip = c.args.skip in
    let begins : skip < w = omega (arith, c.requires.width, c.requires.within) in
    pair_row g.U.BitStore.value g.O.BitOrder.place g.P.BitOrder.place w g.U.BitStore.BITS (g.T.BitStore.value c.window.result) c.args.k skip c.args.source.now c.index-source-k.result c.index-source-k-2.result
    (width_positive w g.met.T.BitStore.width) c.requires.width c.requires.word c.requires.within c.index-source-k.is c.index-source-k-2.is (λ i h. c.window.ensures skip i begins h c.requires.table)
