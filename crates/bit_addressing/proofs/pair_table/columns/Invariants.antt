use Rattle.std.proofs.Common.{◌≡◌, ℕ, ◌+◌, ◌/◌, ◌%◌, ◌<◌, ◌&&◌, eqb, ltb, length, slice_index_or}
use Rattle.bit_addressing.specs.Bits.{has_bit}
use Rattle.bit_addressing.proofs.pair_table.columns.Given as goal

-- the bits at the indices below `i` are in their columns, and no others
abbrev pub invariant-loop-i : goal.invariant-loop-i
invariant-loop-i g l = record {
  size : length l.columns ≡ 64;
  bits : (j p : ℕ) → j < g.T.BitStore.BITS → p < 64 → has_bit (slice_index_or l.columns p 0) (g.O.BitOrder.place g.T.BitStore.BITS j) ≡ (ltb j l.i && (eqb ((l.at + j) / g.T.BitStore.BITS) l.fn.word && eqb p (g.P.BitOrder.place g.T.BitStore.BITS ((l.at + j) % g.T.BitStore.BITS))));
}
