use Rattle.std.proofs.Common.{◌≡◌, ℕ, ◌+◌, ◌<◌, if◌then◌else◌, ◌&&◌, leb, ltb, [], ◌∷◌}
use Rattle.bit_addressing.specs.Bits.{has_bit}
use Rattle.bit_addressing.specs.Row.{row_bit}
use Rattle.bit_addressing.proofs.order.BitOrder.with_run.Given as goal

abbrev pub invariant-loop-i : goal.invariant-loop-i
invariant-loop-i g l = (j : ℕ) → j < g.T.BitStore.BITS → has_bit (g.T.BitStore.value l.word) (g.Self.BitOrder.place g.T.BitStore.BITS j) ≡ (if leb l.fn.from j && ltb j l.i then row_bit g.Self.BitOrder.place g.T.BitStore.BITS (g.T.BitStore.value l.fn.low ∷ g.T.BitStore.value l.fn.high ∷ []) (l.fn.at + j) else has_bit (g.T.BitStore.value l.fn.old) (g.Self.BitOrder.place g.T.BitStore.BITS j))
