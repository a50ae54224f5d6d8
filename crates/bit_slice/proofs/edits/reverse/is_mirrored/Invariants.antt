use Rattle.std.proofs.Common.{◌≡◌, ℕ, ◌-◌, ◌<◌}
use Rattle.bit_slice.proofs.edits.reverse.is_mirrored.Given as goal

abbrev pub invariant-loop-i : goal.invariant-loop-i
invariant-loop-i g l = record { mirrored : (q : ℕ) → q < l.i → g.O.BitOrder.place g.T.BitStore.BITS (g.T.BitStore.BITS - 1 - q) ≡ g.T.BitStore.BITS - 1 - g.O.BitOrder.place g.T.BitStore.BITS q }
