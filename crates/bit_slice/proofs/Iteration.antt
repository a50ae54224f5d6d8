-- What runs of calls of `next` and `next_back` give.
use Rattle.std.proofs.Common.{length, ap}
use Rattle.std.specs.Iterator.{YieldsFirst, YieldsLast, YieldsFirstBy, YieldsLastBy}
use Rattle.std.specs.Iterator.Runs.{YieldsInOrder, YieldsInReverse, EveryRun, ItemsMapTo, ItemsMapToReversed}
use Rattle.std.proofs.iter.runs.Sources.{from_front, from_back, as_is, as_is_back}
use Rattle.bit_addressing.specs.declared.store.BitStore as store
use Rattle.bit_addressing.specs.declared.order.BitOrder as order
use Rattle.bit_slice.specs.Iter.{rest_of}
use Rattle.bit_slice.specs.BitRuns.{ranges_left, runs_left}
use Rattle.bit_slice.specs.BitSlice.{list_of}
use Rattle.bit_slice.specs.Indices.{ones_left, zeros_left}
use Rattle.bit_slice.specs.Patterns.{places_left}
use Rattle.bit_slice.specs.PiecesLeft.{chunks_left, exact_chunks_left, back_chunks_left, windows_left, exact_first, exact_last}

module _ {X Y : Type 0} (W : store.Ghosts X) (P : order.Ghosts Y) where
  -- `Iter` gives the bits in order
  pub bit_runs : YieldsInOrder (YieldsFirst (rest_of {X = X} {Y = Y} {W = W} {P = P})) rest_of
  bit_runs p s = as_is p (rest_of p.from) (from_front (YieldsFirst (rest_of {X = X} {Y = Y} {W = W} {P = P})) (λ b. b) rest_of (λ s t h. ap length h.0) (λ s x t h. h) p s)

  -- `Iter` gives them from the back in reverse
  pub bit_runs_back : YieldsInReverse (YieldsLast (rest_of {X = X} {Y = Y} {W = W} {P = P})) rest_of
  bit_runs_back p s = as_is_back p (rest_of p.from) (from_back (YieldsLast (rest_of {X = X} {Y = Y} {W = W} {P = P})) (λ b. b) rest_of (λ s t h. ap length h.0) (λ s x t h. h) p s)

module _ {X Y : Type 0} (W : store.Ghosts X) (P : order.Ghosts Y) where
  -- `IterOnes` gives the indices of the ones in order
  pub ones_runs : YieldsInOrder (YieldsFirst (ones_left {X = X} {Y = Y} {W = W} {P = P})) ones_left
  ones_runs p s = as_is p (ones_left p.from) (from_front (YieldsFirst (ones_left {X = X} {Y = Y} {W = W} {P = P})) (λ b. b) ones_left (λ s t h. ap length h.0) (λ s x t h. h) p s)

  -- `IterOnes` gives them from the back in reverse
  pub ones_runs_back : YieldsInReverse (YieldsLast (ones_left {X = X} {Y = Y} {W = W} {P = P})) ones_left
  ones_runs_back p s = as_is_back p (ones_left p.from) (from_back (YieldsLast (ones_left {X = X} {Y = Y} {W = W} {P = P})) (λ b. b) ones_left (λ s t h. ap length h.0) (λ s x t h. h) p s)

  -- `IterZeros` gives the indices of the zeros in order
  pub zeros_runs : YieldsInOrder (YieldsFirst (zeros_left {X = X} {Y = Y} {W = W} {P = P})) zeros_left
  zeros_runs p s = as_is p (zeros_left p.from) (from_front (YieldsFirst (zeros_left {X = X} {Y = Y} {W = W} {P = P})) (λ b. b) zeros_left (λ s t h. ap length h.0) (λ s x t h. h) p s)

  -- `IterZeros` gives them from the back in reverse
  pub zeros_runs_back : YieldsInReverse (YieldsLast (zeros_left {X = X} {Y = Y} {W = W} {P = P})) zeros_left
  zeros_runs_back p s = as_is_back p (zeros_left p.from) (from_back (YieldsLast (zeros_left {X = X} {Y = Y} {W = W} {P = P})) (λ b. b) zeros_left (λ s t h. ap length h.0) (λ s x t h. h) p s)

module _ {X Y : Type 0} (W : store.Ghosts X) (P : order.Ghosts Y) where
  -- `IterRuns` gives the runs in order
  pub bit_runs_in_order : YieldsInOrder (YieldsFirst (runs_left {X = X} {Y = Y} {W = W} {P = P})) runs_left
  bit_runs_in_order p s = as_is p (runs_left p.from) (from_front (YieldsFirst (runs_left {X = X} {Y = Y} {W = W} {P = P})) (λ r. r) runs_left (λ s t h. ap length h.0) (λ s x t h. h) p s)

  -- `IterRanges` gives the ranges in order
  pub ranges_in_order : YieldsInOrder (YieldsFirst (ranges_left {X = X} {Y = Y} {W = W} {P = P})) ranges_left
  ranges_in_order p s = as_is p (ranges_left p.from) (from_front (YieldsFirst (ranges_left {X = X} {Y = Y} {W = W} {P = P})) (λ r. r) ranges_left (λ s t h. ap length h.0) (λ s x t h. h) p s)

module _ {X Y : Type 0} (W : store.Ghosts X) (P : order.Ghosts Y) where
  -- `Chunks` gives the chunks in order
  pub chunks_runs : EveryRun (YieldsFirstBy (list_of {X = X} {Y = Y} {W = W} {P = P}) (chunks_left {X = X} {Y = Y} {W = W} {P = P})) (λ p. ItemsMapTo p list_of (chunks_left p.from))
  chunks_runs p s = from_front (YieldsFirstBy (list_of {X = X} {Y = Y} {W = W} {P = P}) (chunks_left {X = X} {Y = Y} {W = W} {P = P})) list_of chunks_left (λ s t h. ap length h.0) (λ s x t h. h) p s

  -- `Chunks` gives them from the back in reverse
  pub chunks_runs_back : EveryRun (YieldsLastBy (list_of {X = X} {Y = Y} {W = W} {P = P}) (chunks_left {X = X} {Y = Y} {W = W} {P = P})) (λ p. ItemsMapToReversed p list_of (chunks_left p.from))
  chunks_runs_back p s = from_back (YieldsLastBy (list_of {X = X} {Y = Y} {W = W} {P = P}) (chunks_left {X = X} {Y = Y} {W = W} {P = P})) list_of chunks_left (λ s t h. ap length h.0) (λ s x t h. h) p s

  -- `ChunksExact` gives the whole chunks in order
  pub chunks_exact_runs : EveryRun (exact_first {X = X} {Y = Y} {W = W} {P = P}) (λ p. ItemsMapTo p list_of (exact_chunks_left p.from))
  chunks_exact_runs p s = from_front (exact_first {X = X} {Y = Y} {W = W} {P = P}) list_of exact_chunks_left (λ s t h. ap length h.0.0) (λ s x t h. h.0) p s

  -- `ChunksExact` gives them from the back in reverse
  pub chunks_exact_runs_back : EveryRun (exact_last {X = X} {Y = Y} {W = W} {P = P}) (λ p. ItemsMapToReversed p list_of (exact_chunks_left p.from))
  chunks_exact_runs_back p s = from_back (exact_last {X = X} {Y = Y} {W = W} {P = P}) list_of exact_chunks_left (λ s t h. ap length h.0.0) (λ s x t h. h.0) p s

  -- `RChunks` gives the chunks from the end
  pub rchunks_runs : EveryRun (YieldsFirstBy (list_of {X = X} {Y = Y} {W = W} {P = P}) (back_chunks_left {X = X} {Y = Y} {W = W} {P = P})) (λ p. ItemsMapTo p list_of (back_chunks_left p.from))
  rchunks_runs p s = from_front (YieldsFirstBy (list_of {X = X} {Y = Y} {W = W} {P = P}) (back_chunks_left {X = X} {Y = Y} {W = W} {P = P})) list_of back_chunks_left (λ s t h. ap length h.0) (λ s x t h. h) p s

  -- `RChunks` gives them from its back in reverse
  pub rchunks_runs_back : EveryRun (YieldsLastBy (list_of {X = X} {Y = Y} {W = W} {P = P}) (back_chunks_left {X = X} {Y = Y} {W = W} {P = P})) (λ p. ItemsMapToReversed p list_of (back_chunks_left p.from))
  rchunks_runs_back p s = from_back (YieldsLastBy (list_of {X = X} {Y = Y} {W = W} {P = P}) (back_chunks_left {X = X} {Y = Y} {W = W} {P = P})) list_of back_chunks_left (λ s t h. ap length h.0) (λ s x t h. h) p s

  -- `Windows` gives the windows in order
  pub windows_runs : EveryRun (YieldsFirstBy (list_of {X = X} {Y = Y} {W = W} {P = P}) (windows_left {X = X} {Y = Y} {W = W} {P = P})) (λ p. ItemsMapTo p list_of (windows_left p.from))
  windows_runs p s = from_front (YieldsFirstBy (list_of {X = X} {Y = Y} {W = W} {P = P}) (windows_left {X = X} {Y = Y} {W = W} {P = P})) list_of windows_left (λ s t h. ap length h.0) (λ s x t h. h) p s

  -- `Windows` gives them from the back in reverse
  pub windows_runs_back : EveryRun (YieldsLastBy (list_of {X = X} {Y = Y} {W = W} {P = P}) (windows_left {X = X} {Y = Y} {W = W} {P = P})) (λ p. ItemsMapToReversed p list_of (windows_left p.from))
  windows_runs_back p s = from_back (YieldsLastBy (list_of {X = X} {Y = Y} {W = W} {P = P}) (windows_left {X = X} {Y = Y} {W = W} {P = P})) list_of windows_left (λ s t h. ap length h.0) (λ s x t h. h) p s

module _ {X Y Z V : Type 0} (W : store.Ghosts X) (P : order.Ghosts Y) (U : store.Ghosts Z) (Q : order.Ghosts V) where
  -- `FindAll` gives the places of the pattern in order
  pub places_in_order : YieldsInOrder (YieldsFirst (places_left {X = X} {Y = Y} {Z = Z} {V = V} {W = W} {P = P} {U = U} {Q = Q})) places_left
  places_in_order p s = as_is p (places_left p.from) (from_front (YieldsFirst (places_left {X = X} {Y = Y} {Z = Z} {V = V} {W = W} {P = P} {U = U} {Q = Q})) (λ i. i) places_left (λ s t h. ap length h.0) (λ s x t h. h) p s)
