use Rattle.bit_blocks.proofs.Bits.{none_ones}
use Rattle.bit_blocks.proofs.mapped.empty.Goals as goal

pub returns-clause-none : goal.returns-clause-none
returns-clause-none c = none_ones _ c.in-Ok.ensures.list c.in-Ok.ensures.len
