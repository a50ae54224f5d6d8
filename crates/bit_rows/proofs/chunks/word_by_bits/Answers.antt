use Rattle.std.proofs.Common.{◌+◌, ◌≤◌, [], ◌∷◌, arith}
use Rattle.bit_addressing.specs.Row.{row_bit}
use Rattle.bit_addressing.proofs.Moves.{collect_step}
use Rattle.bit_addressing.proofs.Shifts.{pair_row}
use Rattle.bit_addressing.proofs.Rows.{width_positive}
use Rattle.bit_rows.proofs.chunks.word_by_bits.Goals as goal

pub loop-i-preserved : goal.loop-i-preserved
loop-i-preserved g c =
    let w = g.T.BitStore.BITS in
    let value = g.T.BitStore.value in
    let given = g.U.BitStore.value in
    collect_step (g.O.BitOrder.place w) w c.loop-i.i (value c.loop-i.word) (value c.with_bit-word.result) c.into_inner-place.result c.bit_of_pair.result
    (λ j. row_bit g.P.BitOrder.place g.U.BitStore.BITS (given c.index-source-k.result ∷ given c.index-source-k-2.result ∷ []) (c.args.skip + j))
    (g.met.O.BitOrder.lawful w g.met.T.BitStore.width) (omega arith) (cc) c.with_bit-word.ensures (cc) c.loop-i.invariant

pub returns : goal.returns
returns g c =
    let w = g.T.BitStore.BITS in
    let end : w ≤ c.loop-i.i = omega arith in
    pair_row g.U.BitStore.value g.O.BitOrder.place g.P.BitOrder.place w g.U.BitStore.BITS (g.T.BitStore.value c.loop-i.word) c.args.k c.args.skip c.args.source.now c.index-source-k.result c.index-source-k-2.result
    (width_positive w g.met.T.BitStore.width) c.requires.width c.requires.word c.requires.within c.index-source-k.is c.index-source-k-2.is (λ i h. c.loop-i.invariant i (omega arith))
