use Rattle.std.proofs.Common.{◌≡◌, ◌+◌, ◌*◌, count_by, slice_range}
use Rattle.std.specs.Simd.Lanes.{zip2}
use Rattle.bit_addressing.specs.Typed.{row}
use Rattle.bit_rows.proofs.pairs.count_alike.Given as goal

abbrev pub invariant-loop-t : goal.invariant-loop-t
invariant-loop-t g l = record { counted : l.count ≡ count_by (λ b. b) (zip2 g.F.BitOperator.made (slice_range (row g.T.BitStore g.O.BitOrder l.a) (l.k * g.T.BitStore.BITS) (l.k * g.T.BitStore.BITS + l.t * 256)) (slice_range (row g.U.BitStore g.P.BitOrder l.b) (l.l * g.T.BitStore.BITS) (l.l * g.T.BitStore.BITS + l.t * 256))) }
