use Rattle.std.proofs.Common.{◌≡◌, ◌+◌, ◌*◌, ◌/◌, ◌%◌, ◌∙◌, ap, arith}
use Rattle.bit_addressing.specs.Bits.{has_bit}
use Rattle.bit_addressing.proofs.Moves.{collect_step}
use Rattle.bit_addressing.proofs.Packs.{unpacked_lawful, unpacked_place}
use Rattle.bit_addressing.proofs.order.BitOrder.unpack.Goals as goal

pub loop-i-preserved : goal.loop-i-preserved
loop-i-preserved g c =
    let w = g.T.BitStore.BITS in
    let place = g.Self.BitOrder.place in
    let i = c.loop-i.i in
    let at : c.into_inner-place.result ≡ place w (i % w) = c.into_inner-place.ensures.value ∙ c.at-in-loop-i.ensures ∙ ap (place w) (c.new_unchecked-in-loop-i.ensures ∙ ap (λ n. i % n) c.BITS.ensures) in
    let word : i / c.BITS-in-loop-i.result * c.BITS-in-loop-i-2.result ≡ i / w * w = ap (λ n. i / n * c.BITS-in-loop-i-2.result) c.BITS-in-loop-i.ensures ∙ ap (λ n. i / w * n) c.BITS-in-loop-i-2.ensures in
    collect_step (unpacked_place place w) 64 i c.loop-i.bits c.with_bit-bits.result (i / c.BITS-in-loop-i.result * c.BITS-in-loop-i-2.result + c.into_inner-place.result) c.bit-bit.result
    (λ j. has_bit c.args.block (place 64 j)) (unpacked_lawful place w g.met.T.BitStore.width (g.met.Self.BitOrder.lawful w g.met.T.BitStore.width)) (omega arith)
    (ap (λ n. n + c.into_inner-place.result) word ∙ ap (λ n. i / w * w + n) at) c.with_bit-bits.ensures
    (c.bit-bit.ensures ∙ ap (has_bit c.args.block) (c.into_inner.ensures.value ∙ c.at.ensures ∙ ap (place 64) c.new_unchecked.ensures)) c.loop-i.invariant
