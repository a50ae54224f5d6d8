use Rattle.std.proofs.Common.{◌+◌, ◌-◌, ◌*◌, ◌<◌, ◌≤◌, length}
use Rattle.bit_slice.specs.Numbered.{count_before}
use Rattle.bit_ranks.proofs.ranks.Ranks.block_of.Given as goal

abbrev pub invariant-narrow : goal.invariant-narrow
invariant-narrow g l = record {
  ordered : l.low ≤ l.high;
  within : l.high * 512 ≤ length l.self.list;
  before : count_before l.bit l.self.list (l.low * 512) ≤ l.k;
  after : (l.high + 1) * 512 ≤ length l.self.list → l.k < count_before l.bit l.self.list ((l.high + 1) * 512);
}

abbrev pub decreases-narrow : goal.decreases-narrow
decreases-narrow g l = l.high - l.low
