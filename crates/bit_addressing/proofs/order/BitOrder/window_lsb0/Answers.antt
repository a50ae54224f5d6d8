use Rattle.std.proofs.Common.{◌+◌, [], ◌∷◌, refl, arith}
use Rattle.bit_addressing.specs.Order.{lsb0_lawful}
use Rattle.bit_addressing.specs.Row.{row_bit}
use Rattle.bit_addressing.proofs.Moves.{collect_step}
use Rattle.bit_addressing.proofs.order.BitOrder.window_lsb0.Goals as goal

pub loop-i-preserved : goal.loop-i-preserved
loop-i-preserved g c =
    let w = g.T.BitStore.BITS in
    let value = g.T.BitStore.value in
    let place = g.Self.BitOrder.place in
    let at = c.args.at in
    let i = c.loop-i.i in
    collect_step (λ j. j) w i (value c.loop-i.word) (value c.with_bit-word.result) i c.bit_of_pair.result
    (λ j. row_bit place w (value c.args.low ∷ value c.args.high ∷ []) (at + j))
    (lsb0_lawful w g.met.T.BitStore.width) (omega arith) refl c.with_bit-word.ensures (cc) c.loop-i.invariant
