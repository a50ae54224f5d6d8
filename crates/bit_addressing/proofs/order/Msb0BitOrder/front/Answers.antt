use Rattle.std.proofs.Common.{◌≡◌, ◌+◌, ◌-◌, ◌∙◌, ap, arith}
use Rattle.bit_addressing.specs.Bits.{has_bit}
use Rattle.bit_addressing.proofs.order.Msb0BitOrder.front.Goals as goal

pub returns : goal.returns
returns g c =
    let t = g.T.BitStore.BITS in
    let u = g.U.BitStore.BITS in
    λ i h.
    let from : t - 1 - i + (c.BITS.result - c.BITS-2.result) ≡ u - 1 - i = omega arith in
    c.from_u64.ensures (t - 1 - i) (omega arith) ∙ c.to_u64.ensures.low (t - 1 - i) (omega arith) ∙ c.shr.ensures.low (t - 1 - i) (omega arith) ∙ ap (has_bit (g.U.BitStore.value c.args.word)) from
