use Rattle.std.proofs.Common.{arith}
use Rattle.bit_addressing.specs.Bits.{has_bit}
use Rattle.bit_addressing.proofs.Moves.{collect_step}
use Rattle.bit_addressing.proofs.order.BitOrder.from_lsb0.Goals as goal

pub loop-i-preserved : goal.loop-i-preserved
loop-i-preserved g c =
    collect_step (g.Self.BitOrder.place g.T.BitStore.BITS) g.T.BitStore.BITS c.loop-i.i (g.T.BitStore.value c.loop-i.made) (g.T.BitStore.value c.with_bit-made.result) c.into_inner.result c.bit-bit.result
    (λ j. has_bit (g.T.BitStore.value c.args.word) j) (g.met.Self.BitOrder.lawful g.T.BitStore.BITS g.met.T.BitStore.width) (omega arith) (cc) c.with_bit-made.ensures c.bit-bit.ensures c.loop-i.invariant
