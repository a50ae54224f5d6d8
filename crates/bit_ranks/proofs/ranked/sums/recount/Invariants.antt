use Rattle.std.proofs.Common.{◌≡◌, ◌+◌, ◌^◌, ◌<◌, ◌≤◌, false, not, get_or, set, length}
use Rattle.bit_slice.specs.BitSlice.{list_of}
use Rattle.bit_ranks.specs.Sums.{IsSummed, before_block}
use Rattle.bit_ranks.proofs.Sums.{IsOpen}
use Rattle.bit_ranks.proofs.ranked.sums.recount.Given as goal

abbrev pub invariant-halves : goal.invariant-halves
invariant-halves g l = record {
  low : l.level ≤ l.levels;
  begins : l.first ≤ l.block;
  ends : l.block < l.first + 2 ^ l.level;
  size : length l.sums.items ≡ length l.initial.sums.items;
  summed : IsSummed (before_block (set (list_of l.fn.bits) l.i (not (get_or (list_of l.fn.bits) l.i false)))) (length l.initial.sums.items) l.sums.items l.level l.first;
  rest : IsOpen (before_block (list_of l.fn.bits)) (length l.initial.sums.items) l.levels l.sums.items l.level l.first;
}

abbrev pub decreases-halves : goal.decreases-halves
decreases-halves g l = l.level
