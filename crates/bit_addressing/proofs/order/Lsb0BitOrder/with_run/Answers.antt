use Rattle.std.proofs.Common.{◌+◌, [], ◌∷◌}
use Rattle.bit_addressing.specs.Order.{lsb0_lawful}
use Rattle.bit_addressing.specs.Row.{row_bit}
use Rattle.bit_addressing.proofs.Moves.{run_blended}
use Rattle.bit_addressing.proofs.order.Lsb0BitOrder.with_run.Goals as goal

pub returns : goal.returns
returns g c =
    let w = g.T.BitStore.BITS in
    let value = g.T.BitStore.value in
    run_blended (λ i. i) w (value c.args.old) (value c.window.result) (value c.mask.result) (value c.blend.result) c.args.from c.args.upto (λ i. row_bit (λ w i. i) w (value c.args.low ∷ value c.args.high ∷ []) (c.args.at + i)) (lsb0_lawful w g.met.T.BitStore.width) c.blend.ensures c.mask.ensures c.window.ensures
