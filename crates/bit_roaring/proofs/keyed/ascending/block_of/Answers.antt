use Rattle.bit_roaring.proofs.Cut.{block_numbers}
use Rattle.bit_roaring.proofs.keyed.ascending.block_of.Goals as goal

pub returns-clause-numbers : goal.returns-clause-numbers
returns-clause-numbers c = block_numbers c.args.key c.args.numbers.now c.in_ok-lows.lows.items c.in_ok-block.block c.requires c.in_ok-lows.ensures c.in_ok-block.ensures.numbers
