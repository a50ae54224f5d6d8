-- What runs of calls of `next` give.
use Rattle.std.proofs.Common.{length, ap}
use Rattle.std.specs.Iterator.{YieldsFirst, YieldsLast}
use Rattle.std.specs.Iterator.Runs.{YieldsInOrder, YieldsInReverse}
use Rattle.std.proofs.iter.runs.Sources.{from_front, from_back, as_is, as_is_back}
use Rattle.bit_sets.specs.Numbers.{numbers_left}
use Rattle.bit_sets.specs.RangeLeft.{range_left}

-- the iterator gives the numbers in order
pub numbers_runs : YieldsInOrder (YieldsFirst numbers_left) numbers_left
numbers_runs p s = as_is p (numbers_left p.from) (from_front (YieldsFirst numbers_left) (λ n. n) numbers_left (λ s t h. ap length h.0) (λ s x t h. h) p s)

-- the iterator gives them from the back in reverse
pub numbers_runs_back : YieldsInReverse (YieldsLast numbers_left) numbers_left
numbers_runs_back p s = as_is_back p (numbers_left p.from) (from_back (YieldsLast numbers_left) (λ n. n) numbers_left (λ s t h. ap length h.0) (λ s x t h. h) p s)

-- the iterator of a range gives its numbers in order
pub range_runs : YieldsInOrder (YieldsFirst range_left) range_left
range_runs p s = as_is p (range_left p.from) (from_front (YieldsFirst range_left) (λ n. n) range_left (λ s t h. ap length h.0) (λ s x t h. h) p s)

-- the iterator of a range gives them from the back in reverse
pub range_runs_back : YieldsInReverse (YieldsLast range_left) range_left
range_runs_back p s = as_is_back p (range_left p.from) (from_back (YieldsLast range_left) (λ n. n) range_left (λ s t h. ap length h.0) (λ s x t h. h) p s)
