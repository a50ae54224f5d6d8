use Rattle.std.proofs.Common.{◌≡◌, ℕ, false, ◌+◌, ◌*◌, ◌<◌, ◌≤◌, replicate}
use Rattle.bit_addressing.specs.Bits.{has_bit}
use Rattle.bit_addressing.specs.Typed.{row}
use Rattle.bit_rows.proofs.Differs.{AreAlike}
use Rattle.bit_rows.proofs.searches.turns_without.Given as goal

abbrev pub invariant-loop-i : goal.invariant-loop-i
invariant-loop-i g l = record { alike : ((p : ℕ) → p < g.T.BitStore.BITS → has_bit (g.T.BitStore.value l.apart) p ≡ false) → AreAlike (row g.T.BitStore g.O.BitOrder l.words) (replicate (l.count * g.T.BitStore.BITS) (has_bit (g.T.BitStore.value l.other) 0)) (l.k * g.T.BitStore.BITS) 0 ((l.t * l.each + l.i) * g.T.BitStore.BITS); turn : l.t * l.each + l.each ≤ l.count }

abbrev pub invariant-loop-t : goal.invariant-loop-t
invariant-loop-t g l = record { alike : AreAlike (row g.T.BitStore g.O.BitOrder l.words) (replicate (l.count * g.T.BitStore.BITS) (has_bit (g.T.BitStore.value l.other) 0)) (l.k * g.T.BitStore.BITS) 0 (l.t * l.each * g.T.BitStore.BITS) }
