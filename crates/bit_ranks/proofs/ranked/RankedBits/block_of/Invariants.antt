use Rattle.std.proofs.Common.{◌≡◌, ◌+◌, ◌*◌, ◌^◌, ◌<◌, ◌≤◌, length}
use Rattle.bit_slice.specs.Numbered.{count_before}
use Rattle.bit_ranks.specs.Sums.{IsSummed, before_block}
use Rattle.bit_ranks.proofs.ranked.RankedBits.block_of.Given as goal

abbrev pub invariant-halves : goal.invariant-halves
invariant-halves g l = record {
  low : l.level ≤ l.initial.level;
  inside : l.block ≤ length l.sums;
  before : count_before l.bit l.self.list (l.block * 512) + l.left ≡ l.k;
  after : l.block + 2 ^ l.level ≤ length l.sums → l.k < count_before l.bit l.self.list ((l.block + 2 ^ l.level) * 512);
  summed : IsSummed (before_block l.self.list) (length l.sums) l.sums l.level l.block;
}

abbrev pub decreases-halves : goal.decreases-halves
decreases-halves g l = l.level
