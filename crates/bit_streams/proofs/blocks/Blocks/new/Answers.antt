use Rattle.bit_streams.proofs.Lists.{nothing_written}
use Rattle.bit_streams.proofs.blocks.Blocks.new.Goals as goal

pub returns-clause-list : goal.returns-clause-list
returns-clause-list g c = nothing_written c.new.result.list c.new.ensures.list
