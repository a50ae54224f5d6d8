use Rattle.std.proofs.Common.{◌≡◌, ◌+◌, ◌^◌, ◌<◌, ◌≤◌, length}
use Rattle.bit_ranks.specs.Sums.{IsSummed, before_block}
use Rattle.bit_ranks.proofs.ranked.RankedBits.ones_to.Given as goal

abbrev pub invariant-halves : goal.invariant-halves
invariant-halves g l = record {
  low : l.level ≤ l.initial.level;
  begins : l.first ≤ l.block;
  ends : l.block < l.first + 2 ^ l.level;
  total : l.total ≡ before_block l.self.list l.first;
  summed : IsSummed (before_block l.self.list) (length l.sums) l.sums l.level l.first;
}

abbrev pub decreases-halves : goal.decreases-halves
decreases-halves g l = l.level
