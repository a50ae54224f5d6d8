use Rattle.std.proofs.Common.{◌≡◌, ℕ, ◌<◌}
use Rattle.bit_rows.proofs.narrow.goes_back.Given as goal

abbrev pub invariant-loop-i : goal.invariant-loop-i
invariant-loop-i g l = record { back : (q : ℕ) → q < l.i → g.O.BitOrder.place g.T.BitStore.BITS (g.O.BitOrder.place g.T.BitStore.BITS q) ≡ q }
