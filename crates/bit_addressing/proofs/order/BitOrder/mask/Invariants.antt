use Rattle.std.proofs.Common.{leb, ltb, ◌≡◌, ℕ, ◌<◌, ◌&&◌}
use Rattle.bit_addressing.specs.Bits.{has_bit}
use Rattle.bit_addressing.proofs.order.BitOrder.mask.Given as goal

abbrev pub invariant-loop-i : goal.invariant-loop-i
invariant-loop-i g l = (j : ℕ) → j < g.T.BitStore.BITS → has_bit (g.T.BitStore.value l.word) (g.Self.BitOrder.place g.T.BitStore.BITS j) ≡ (leb l.fn.from j && ltb j l.i)
