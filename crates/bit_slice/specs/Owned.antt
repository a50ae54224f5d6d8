-- Iterators that own their bits, by the bits that each has left.
use Rattle.std.specs.Prelude.{Bool, List}
use Rattle.std.specs.Iterator.{YieldsFirst, YieldsLast}
use Rattle.std.specs.Iterator.Runs.{YieldsInOrder, YieldsInReverse}

-- the bits that an iterator has left, where it is their list in contracts
abbrev pub rest_of : List Bool → List Bool
rest_of bits = bits

module _ {S : Type 0} (rest : S → List Bool) where
  -- a run of calls of `next` gives the bits in order, each once
  abbrev pub GivesInOrder : Type 0
  GivesInOrder = YieldsInOrder (YieldsFirst rest) rest

  -- a run of calls of `next_back` gives them from the end, each once
  abbrev pub GivesInReverse : Type 0
  GivesInReverse = YieldsInReverse (YieldsLast rest) rest
