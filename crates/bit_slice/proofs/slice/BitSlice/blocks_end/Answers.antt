use Rattle.bit_slice.proofs.Chunked.{all_blocks}
use Rattle.bit_slice.proofs.slice.BitSlice.blocks_end.Goals as goal

pub returns-then-self-eq0 : goal.returns-then-self-eq0
returns-then-self-eq0 g c = all_blocks c.args.self.head c.args.self.len c.if-self-eq0.true
