use Rattle.std.specs.Prelude.{bit_xor}
use Rattle.std.proofs.Common.{refl, arith}
use Rattle.bit_addressing.specs.Order.{lawful_by_test}
use Rattle.bit_trials.proofs.orders.Xor4BitOrder.at.Goals as goal

pub new_unchecked-requires : goal.new_unchecked-requires
new_unchecked-requires g c = (lawful_by_test (λ w i. bit_xor i 4) refl refl refl refl g.T.BitStore.BITS g.met.T.BitStore.width).in_range c.into_inner.result (omega arith)
