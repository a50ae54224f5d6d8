use Rattle.std.proofs.Common.{◌≡◌, ℕ, ◌+◌, ◌<◌, [], ◌∷◌}
use Rattle.bit_addressing.specs.Bits.{has_bit}
use Rattle.bit_addressing.specs.Row.{row_bit}
use Rattle.bit_addressing.proofs.order.BitOrder.window_lsb0.Given as goal

abbrev pub invariant-loop-i : goal.invariant-loop-i
invariant-loop-i g l = (j : ℕ) → j < l.i → has_bit (g.T.BitStore.value l.word) j ≡ row_bit g.Self.BitOrder.place g.T.BitStore.BITS (g.T.BitStore.value l.fn.low ∷ g.T.BitStore.value l.fn.high ∷ []) (l.fn.at + j)
