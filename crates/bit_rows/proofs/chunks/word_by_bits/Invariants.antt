use Rattle.std.proofs.Common.{◌≡◌, ℕ, ◌+◌, ◌<◌, [], ◌∷◌}
use Rattle.bit_addressing.specs.Bits.{has_bit}
use Rattle.bit_addressing.specs.Row.{row_bit}
use Rattle.bit_rows.proofs.chunks.word_by_bits.Given as goal

-- the bits below index `i` are written
abbrev pub invariant-loop-i : goal.invariant-loop-i
invariant-loop-i g l = (j : ℕ) → j < l.i → has_bit (g.T.BitStore.value l.word) (g.O.BitOrder.place g.T.BitStore.BITS j) ≡ row_bit g.P.BitOrder.place g.U.BitStore.BITS (g.U.BitStore.value l.low ∷ g.U.BitStore.value l.high ∷ []) (l.fn.skip + j)
