use Rattle.std.proofs.Common.{◌≡◌, ◌-◌, ◌∙◌, ap, arith}
use Rattle.bit_addressing.specs.Bits.{has_bit}
use Rattle.bit_addressing.proofs.parts.shl_by_rest.Goals as goal

pub returns-clause-high : goal.returns-clause-high
returns-clause-high g c p h k =
    let value = g.T.BitStore.value in
    let from : p - 1 - (c.BITS-2.result - 1 - c.args.count) ≡ p - (g.T.BitStore.BITS - c.args.count) = omega arith in
    c.shl-3.ensures.high p (omega arith) k ∙ c.shl-2.ensures.high (p - 1) (omega arith) (omega arith) ∙ ap (has_bit (value c.args.word)) from
