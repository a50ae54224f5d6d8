use Rattle.std.proofs.Common.{◌≡◌, ◌+◌, if◌then◌else◌, ◌&&◌, leb, ltb, [], ◌∷◌, ◌∙◌, ap, arith}
use Rattle.bit_addressing.specs.Bits.{has_bit}
use Rattle.bit_addressing.specs.Row.{row_bit}
use Rattle.bit_addressing.proofs.Moves.{run_step, none_yet}
use Rattle.bit_addressing.proofs.order.BitOrder.with_run.Goals as goal

pub loop-i-preserved : goal.loop-i-preserved
loop-i-preserved g c =
    let w = g.T.BitStore.BITS in
    let value = g.T.BitStore.value in
    let place = g.Self.BitOrder.place in
    let at = c.args.at in
    let i = c.loop-i.i in
    run_step (place w) w c.args.from i (value c.loop-i.word) (value c.with_bit-word.result) c.into_inner-place.result c.bit_of_pair.result
    (λ j. row_bit place w (value c.args.low ∷ value c.args.high ∷ []) (at + j)) (λ j. has_bit (value c.args.old) (place w j))
    (g.met.Self.BitOrder.lawful w g.met.T.BitStore.width) (omega arith) (omega arith) (cc) c.with_bit-word.ensures (cc) c.loop-i.invariant

pub loop-i-init : goal.loop-i-init
loop-i-init g c =
    let w = g.T.BitStore.BITS in
    let value = g.T.BitStore.value in
    let place = g.Self.BitOrder.place in
    λ j h. none_yet c.args.from c.into_inner-i.result j (row_bit place w (value c.args.low ∷ value c.args.high ∷ []) (c.args.at + j)) (has_bit (value c.args.old) (place w j)) (omega arith)

pub returns : goal.returns
returns g c =
    let w = g.T.BitStore.BITS in
    let value = g.T.BitStore.value in
    let place = g.Self.BitOrder.place in
    let end : c.loop-i.i ≡ c.args.upto = omega arith in
    λ i h. c.loop-i.invariant i h ∙ ap (λ n. if leb c.args.from i && ltb i n then row_bit place w (value c.args.low ∷ value c.args.high ∷ []) (c.args.at + i) else has_bit (value c.args.old) (place w i)) end
