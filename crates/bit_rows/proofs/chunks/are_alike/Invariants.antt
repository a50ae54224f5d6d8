use Rattle.std.proofs.Common.{◌≡◌, ℕ, ◌<◌}
use Rattle.bit_rows.proofs.chunks.are_alike.Given as goal

abbrev pub invariant-loop-i : goal.invariant-loop-i
invariant-loop-i g l = record { alike : (q : ℕ) → q < l.i → g.O.BitOrder.place g.T.BitStore.BITS q ≡ g.P.BitOrder.place g.T.BitStore.BITS q }
