use Rattle.std.proofs.Common.{◌≡◌, ℕ, ◌<◌}
use Rattle.bit_addressing.specs.Bits.{has_bit}
use Rattle.bit_addressing.proofs.order.BitOrder.from_lsb0.Given as goal

abbrev pub invariant-loop-i : goal.invariant-loop-i
invariant-loop-i g l = (j : ℕ) → j < l.i → has_bit (g.T.BitStore.value l.made) (g.Self.BitOrder.place g.T.BitStore.BITS j) ≡ has_bit (g.T.BitStore.value l.word) j
