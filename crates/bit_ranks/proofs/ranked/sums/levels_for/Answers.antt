use Rattle.std.proofs.Common.{arith}
use Rattle.bit_ranks.proofs.Sums.{levels_small, levels_tall}
use Rattle.bit_ranks.proofs.ranked.sums.levels_for.Goals as goal

pub returns-clause-small : goal.returns-clause-small
returns-clause-small c = levels_small c.args.blocks c.requires

pub returns-clause-tall : goal.returns-clause-tall
returns-clause-tall c = levels_tall c.args.blocks (omega arith)
