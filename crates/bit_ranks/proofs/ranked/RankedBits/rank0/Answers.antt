use Rattle.bit_ranks.proofs.Numbered.{zeros_left}
use Rattle.bit_ranks.proofs.ranked.RankedBits.rank0.Goals as goal

pub returns-clause-value : goal.returns-clause-value
returns-clause-value g c = zeros_left c.args.self.now.list c.args.i c.rank1.result c.requires c.rank1.ensures.value
