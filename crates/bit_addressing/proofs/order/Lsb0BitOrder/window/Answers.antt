use Rattle.std.proofs.Common.{◌-◌, refl}
use Rattle.bit_addressing.proofs.Windows.{window_up}
use Rattle.bit_addressing.proofs.order.Lsb0BitOrder.window.Goals as goal

pub returns : goal.returns
returns g c =
    let w = g.T.BitStore.BITS in
    let value = g.T.BitStore.value in
    let at = c.into_inner-begin.result in
    λ i h. rw c.into_inner-begin.ensures.value at (window_up w at (w - at) (value c.args.low) (value c.args.high) (value c.shr.result) (value c.shl_by_rest.result) (value c.or.result) i c.into_inner-begin.ensures.range refl h
    c.shr.ensures.low c.shr.ensures.high c.shl_by_rest.ensures.low c.shl_by_rest.ensures.high c.or.ensures)
