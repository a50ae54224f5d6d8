use Rattle.std.proofs.Common.{◌≡◌, ◌*◌, ◌%◌, [], ◌∷◌, length, slice_range}
use Rattle.bit_addressing.specs.Row.{put, row_of}
use Rattle.bit_addressing.specs.Typed.{row}
use Rattle.bit_rows.proofs.chunks.write_from_block.Given as goal

-- the block's bits before word `i` are written
abbrev pub invariant-loop-i : goal.invariant-loop-i
invariant-loop-i g l = record {
  bits : row g.T.BitStore g.O.BitOrder l.words ≡ put (row g.T.BitStore g.O.BitOrder l.fn.words) l.at (slice_range (row_of g.O.BitOrder.place 64 (l.block ∷ [])) (l.at % g.T.BitStore.BITS) (l.i * g.T.BitStore.BITS));
  size : length l.words ≡ length l.fn.words;
}
