use Rattle.std.proofs.Common.{◌≡◌, ℕ, false, ◌+◌, ◌*◌, ◌<◌}
use Rattle.bit_addressing.specs.Bits.{has_bit}
use Rattle.bit_addressing.specs.Typed.{row}
use Rattle.bit_rows.proofs.Differs.{AreAlike}
use Rattle.bit_rows.proofs.searches.equal_blocks.Given as goal

abbrev pub invariant-loop-i : goal.invariant-loop-i
invariant-loop-i g l = record { alike : ((p : ℕ) → p < 64 → has_bit l.apart p ≡ false) → AreAlike (row g.T.BitStore g.O.BitOrder l.a) (row g.U.BitStore g.P.BitOrder l.b) (l.k * g.T.BitStore.BITS + l.skip) (l.l * g.U.BitStore.BITS + l.over) ((l.t * 16 + l.i) * 64) }

abbrev pub invariant-loop-t : goal.invariant-loop-t
invariant-loop-t g l = record { alike : AreAlike (row g.T.BitStore g.O.BitOrder l.a) (row g.U.BitStore g.P.BitOrder l.b) (l.k * g.T.BitStore.BITS + l.skip) (l.l * g.U.BitStore.BITS + l.over) (l.t * 16 * 64) }
