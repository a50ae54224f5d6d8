use Rattle.std.proofs.Common.{◌≡◌, ℕ, false, ◌+◌, ◌*◌, ◌<◌, ◌≤◌}
use Rattle.bit_addressing.specs.Bits.{has_bit}
use Rattle.bit_addressing.specs.Typed.{row}
use Rattle.bit_rows.proofs.Differs.{AreFalse}
use Rattle.bit_rows.proofs.pairs.false_turns.Given as goal

abbrev pub invariant-loop-i : goal.invariant-loop-i
invariant-loop-i g l = record { none : ((p : ℕ) → p < g.T.BitStore.BITS → has_bit (g.T.BitStore.value l.made) p ≡ false) → AreFalse g.F.BitOperator.made (row g.T.BitStore g.O.BitOrder l.a) (row g.U.BitStore g.P.BitOrder l.b) (l.k * g.T.BitStore.BITS) (l.l * g.T.BitStore.BITS) ((l.t * l.each + l.i) * g.T.BitStore.BITS); turn : l.t * l.each + l.each ≤ l.count }

abbrev pub invariant-loop-t : goal.invariant-loop-t
invariant-loop-t g l = record { none : AreFalse g.F.BitOperator.made (row g.T.BitStore g.O.BitOrder l.a) (row g.U.BitStore g.P.BitOrder l.b) (l.k * g.T.BitStore.BITS) (l.l * g.T.BitStore.BITS) (l.t * l.each * g.T.BitStore.BITS) }
