use Rattle.std.proofs.Common.{◌*◌}
use Rattle.bit_addressing.specs.Typed.{row}
use Rattle.bit_rows.proofs.Differs.{AreAlike}
use Rattle.bit_rows.proofs.searches.differ_alike.Given as goal

abbrev pub invariant-loop-t : goal.invariant-loop-t
invariant-loop-t g l = record { alike : AreAlike (row g.T.BitStore g.O.BitOrder l.a) (row g.U.BitStore g.P.BitOrder l.b) (l.k * g.T.BitStore.BITS) (l.l * g.T.BitStore.BITS) (l.t * g.T.BitStore.BITS) }
