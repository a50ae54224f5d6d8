use Rattle.std.proofs.Common.{arith, refl}
use Rattle.bit_addressing.specs.Bits.{has_bit}
use Rattle.bit_addressing.specs.Order.{lsb0_lawful}
use Rattle.bit_addressing.proofs.Moves.{collect_step}
use Rattle.bit_addressing.proofs.order.BitOrder.to_lsb0.Goals as goal

pub loop-i-preserved : goal.loop-i-preserved
loop-i-preserved g c =
    collect_step (λ i. i) g.T.BitStore.BITS c.loop-i.i (g.T.BitStore.value c.loop-i.made) (g.T.BitStore.value c.with_bit-made.result) c.loop-i.i c.bit-bit.result
    (λ j. has_bit (g.T.BitStore.value c.args.word) (g.Self.BitOrder.place g.T.BitStore.BITS j)) (lsb0_lawful g.T.BitStore.BITS g.met.T.BitStore.width) (omega arith) refl c.with_bit-made.ensures (cc) c.loop-i.invariant
