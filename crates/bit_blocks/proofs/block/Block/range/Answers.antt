use Rattle.std.proofs.Common.{length, ap}
use Rattle.std.proofs.iter.runs.Sources.{from_front, from_back, as_is, as_is_back}
use Rattle.std.specs.Iterator.{YieldsFirst, YieldsLast}
use Rattle.bit_blocks.specs.BlockLeft.{block_left}
use Rattle.bit_blocks.proofs.block.Block.range.Goals as goal

pub returns-clause-runs : goal.returns-clause-runs
returns-clause-runs c p s = as_is p (block_left p.from) (from_front (YieldsFirst block_left) (λ k. k) block_left (λ s t h. ap length h.0) (λ s x t h. h) p s)

pub returns-clause-runs_back : goal.returns-clause-runs_back
returns-clause-runs_back c p s = as_is_back p (block_left p.from) (from_back (YieldsLast block_left) (λ k. k) block_left (λ s t h. ap length h.0) (λ s x t h. h) p s)
