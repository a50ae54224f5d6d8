use Rattle.std.proofs.Common.{◌≡◌, ◌-◌, ap, ◌∙◌, arith}
use Rattle.bit_addressing.proofs.Words.{ones_bit, mask_down}
use Rattle.bit_addressing.proofs.order.Msb0BitOrder.mask.Goals as goal

pub returns : goal.returns
returns g c =
    let w = g.T.BitStore.BITS in
    let value = g.T.BitStore.value in
    let low = c.into_inner-low.result in
    let high = c.into_inner-high.result in
    let none : value c.ZERO-2.result ≡ 0 = ap value c.ZERO-2.ensures ∙ g.met.T.BitStore.zero_is in
    λ i h. rw (c.into_inner-low.ensures.value, c.into_inner-high.ensures.value) at (mask_down w low high (c.BITS.result - (high - low)) (value c.not-ones.result) (value c.shl.result) (value c.shr.result) i (omega arith) c.into_inner-high.ensures.range (ap (λ n. n - (high - low)) c.BITS.ensures) h
    (λ q k. ones_bit w (value c.ZERO-2.result) (value c.not-ones.result) q none k c.not-ones.ensures)
    c.shl.ensures.low c.shl.ensures.high c.shr.ensures.low c.shr.ensures.high)
