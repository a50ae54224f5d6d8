use Rattle.std.proofs.Common.{◌≡◌, ◌+◌, ◌*◌, ◌<◌, ℕ, length, get_or, vec_capacity}
use Rattle.bit_slice.specs.BitSlice.{list_of}
use Rattle.bit_slice.specs.Numbered.{ones_before}
use Rattle.bit_ranks.proofs.ranks.counted.Given as goal

abbrev pub invariant-loop-block : goal.invariant-loop-block
invariant-loop-block g l = record {
  total : l.total ≡ ones_before (list_of l.view) (l.block * 512);
  size : length l.counts.items ≡ l.block;
  room : vec_capacity l.counts ≡ l.blocks;
  each : (b : ℕ) → b < length l.counts.items → get_or l.counts.items b 0 ≡ ones_before (list_of l.view) ((b + 1) * 512);
}
