use Rattle.std.proofs.Common.{◌≡◌, ◌+◌, ◌*◌, ◌++◌, [], ◌∷◌, length, slice_range, vec_capacity}
use Rattle.bit_addressing.specs.Row.{row_of}
use Rattle.bit_addressing.specs.Typed.{row}
use Rattle.bit_rows.proofs.pushes.append_block_in_vec.Given as goal

abbrev pub invariant-loop-i : goal.invariant-loop-i
invariant-loop-i g l = record {
  bits : row g.T.BitStore g.O.BitOrder l.words.items ≡ row g.T.BitStore g.O.BitOrder l.fn.words.items ++ slice_range (row_of g.O.BitOrder.place 64 (l.fn.block ∷ [])) 0 (l.i * g.T.BitStore.BITS);
  size : length l.words.items ≡ length l.fn.words.items + l.i;
  capacity : vec_capacity l.words ≡ vec_capacity l.fn.words;
}
