-- What runs of calls give of the rows of a matrix and of the bits of a column.
use Rattle.std.proofs.Common.{length, ap}
use Rattle.std.specs.Iterator.{YieldsFirst, YieldsLast, YieldsFirstBy, YieldsLastBy}
use Rattle.std.specs.Iterator.Runs.{YieldsInOrder, YieldsInReverse, EveryRun, ItemsMapTo, ItemsMapToReversed}
use Rattle.std.proofs.iter.runs.Sources.{from_front, from_back, as_is, as_is_back}
use Rattle.bit_addressing.specs.declared.store.BitStore as store
use Rattle.bit_addressing.specs.declared.order.BitOrder as order
use Rattle.bit_slice.specs.BitSlice.{list_of}
use Rattle.bit_matrix.specs.MatrixLeft.{column_left, rows_left}

module _ {X Y : Type 0} (W : store.Ghosts X) (P : order.Ghosts Y) where
  -- the iterator of rows gives the rows in order
  pub rows_runs : EveryRun (YieldsFirstBy (list_of {X = X} {Y = Y} {W = W} {P = P}) rows_left) (λ p. ItemsMapTo p list_of (rows_left p.from))
  rows_runs p s = from_front (YieldsFirstBy (list_of {X = X} {Y = Y} {W = W} {P = P}) rows_left) list_of rows_left (λ s t h. ap length h.0) (λ s x t h. h) p s

  -- the iterator of rows gives them from the back in reverse
  pub rows_runs_back : EveryRun (YieldsLastBy (list_of {X = X} {Y = Y} {W = W} {P = P}) rows_left) (λ p. ItemsMapToReversed p list_of (rows_left p.from))
  rows_runs_back p s = from_back (YieldsLastBy (list_of {X = X} {Y = Y} {W = W} {P = P}) rows_left) list_of rows_left (λ s t h. ap length h.0) (λ s x t h. h) p s

-- the iterator of a column gives its bits in order
pub column_runs : YieldsInOrder (YieldsFirst column_left) column_left
column_runs p s = as_is p (column_left p.from) (from_front (YieldsFirst column_left) (λ b. b) column_left (λ s t h. ap length h.0) (λ s x t h. h) p s)

-- the iterator of a column gives them from the back in reverse
pub column_runs_back : YieldsInReverse (YieldsLast column_left) column_left
column_runs_back p s = as_is_back p (column_left p.from) (from_back (YieldsLast column_left) (λ b. b) column_left (λ s t h. ap length h.0) (λ s x t h. h) p s)
