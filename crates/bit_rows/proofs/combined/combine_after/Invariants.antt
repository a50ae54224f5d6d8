use Rattle.std.proofs.Common.{◌≡◌, ◌+◌, ◌-◌, ◌*◌, slice_range, length}
use Rattle.std.specs.Simd.Lanes.{zip2}
use Rattle.bit_addressing.specs.Row.{put}
use Rattle.bit_addressing.specs.Typed.{row}
use Rattle.bit_rows.proofs.combined.combine_after.Given as goal

abbrev pub invariant-loop-k : goal.invariant-loop-k
invariant-loop-k g l = record {
  bits : row g.T.BitStore g.O.BitOrder l.words ≡ put (row g.T.BitStore g.O.BitOrder l.fn.words) (l.first * g.T.BitStore.BITS) (zip2 g.F.BitOperator.made (slice_range (row g.T.BitStore g.O.BitOrder l.fn.words) (l.first * g.T.BitStore.BITS) (l.k * g.T.BitStore.BITS)) (slice_range (row g.U.BitStore g.P.BitOrder l.source) (l.begin * g.U.BitStore.BITS + l.skip) (l.begin * g.U.BitStore.BITS + l.skip + (l.k - l.first) * g.T.BitStore.BITS)));
  size : length l.words ≡ length l.fn.words;
}
