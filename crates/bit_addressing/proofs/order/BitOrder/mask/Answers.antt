use Rattle.std.proofs.Common.{◌≡◌, Bool, true, false, if◌then◌else◌, refl, sym, ◌∙◌, arith}
use Rattle.bit_addressing.proofs.Moves.{run_step}
use Rattle.bit_addressing.proofs.order.BitOrder.mask.Goals as goal

as_test : (b : Bool) → b ≡ (if b then true else false)
as_test true = refl
as_test false = refl

pub loop-i-preserved : goal.loop-i-preserved
loop-i-preserved g c =
    let w = g.T.BitStore.BITS in
    let value = g.T.BitStore.value in
    λ j h. run_step (g.Self.BitOrder.place w) w c.args.from c.loop-i.i (value c.loop-i.word) (value c.with_bit-word.result) c.into_inner.result true (λ q. true) (λ q. false)
    (g.met.Self.BitOrder.lawful w g.met.T.BitStore.width) (omega arith) (omega arith) (cc) c.with_bit-word.ensures refl (λ q k. c.loop-i.invariant q k ∙ as_test _) j h
    ∙ sym (as_test _)
