use Rattle.std.proofs.Common.{◌-◌, refl}
use Rattle.bit_addressing.proofs.Windows.{window_down}
use Rattle.bit_addressing.proofs.order.Msb0BitOrder.window.Goals as goal

pub returns : goal.returns
returns g c =
    let w = g.T.BitStore.BITS in
    let value = g.T.BitStore.value in
    let at = c.into_inner-begin.result in
    λ i h. rw c.into_inner-begin.ensures.value at (window_down w at (w - at) (value c.args.low) (value c.args.high) (value c.shl.result) (value c.shr_by_rest.result) (value c.or.result) i c.into_inner-begin.ensures.range refl h
    c.shl.ensures.low c.shl.ensures.high c.shr_by_rest.ensures.low c.shr_by_rest.ensures.high c.or.ensures)
