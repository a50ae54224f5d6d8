use Rattle.std.proofs.Common.{◌≡◌, ◌+◌, ◌*◌, [], ◌∷◌, slice_range, length}
use Rattle.std.specs.Simd.Lanes.{zip2}
use Rattle.bit_addressing.specs.Row.{put, row_of}
use Rattle.bit_addressing.specs.Typed.{row}
use Rattle.bit_rows.proofs.combined.combine_block.Given as goal

abbrev pub invariant-loop-i : goal.invariant-loop-i
invariant-loop-i g l = record {
  bits : row g.T.BitStore g.O.BitOrder l.words ≡ put (row g.T.BitStore g.O.BitOrder l.fn.words) (l.k * g.T.BitStore.BITS) (zip2 g.F.BitOperator.made (slice_range (row g.T.BitStore g.O.BitOrder l.fn.words) (l.k * g.T.BitStore.BITS) ((l.k + l.i) * g.T.BitStore.BITS)) (slice_range (row_of g.O.BitOrder.place 64 (l.block ∷ [])) 0 (l.i * g.T.BitStore.BITS)));
  size : length l.words ≡ length l.fn.words;
}
