use Rattle.std.proofs.Common.{sym}
use Rattle.bit_slice.specs.BitSlice.{list_of}
use Rattle.bit_sets.proofs.Left.{numbers_count}
use Rattle.bit_sets.proofs.sorted.iter.NumbersExactSizeIterator.len.Goals as goal

pub returns-clause-value : goal.returns-clause-value
returns-clause-value c = let s = c.args.self.now in sym (numbers_count s.len s.width (list_of s.high) (list_of s.low) s.at s.end s.ordered.1)
