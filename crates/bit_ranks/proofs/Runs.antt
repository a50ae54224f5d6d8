-- What runs of calls of `next` and of `next_back` give.
use Rattle.std.proofs.Common.{length, ap}
use Rattle.std.specs.Iterator.{YieldsFirst, YieldsLast}
use Rattle.std.specs.Iterator.Runs.{YieldsInOrder, YieldsInReverse}
use Rattle.std.proofs.iter.runs.Sources.{from_front, from_back, as_is, as_is_back}
use Rattle.bit_addressing.specs.declared.store.BitStore as store
use Rattle.bit_addressing.specs.declared.order.BitOrder as order
use Rattle.bit_ranks.specs.Ones.{ones_from}

-- the iterator gives the indices of the ones in order
pub ones_runs : {X Y : Type 0} (W : store.Ghosts X) (P : order.Ghosts Y) → YieldsInOrder (YieldsFirst (ones_from {X = X} {Y = Y} {W = W} {P = P})) ones_from
ones_runs {X} {Y} W P p s = as_is p (ones_from p.from) (from_front (YieldsFirst (ones_from {X = X} {Y = Y} {W = W} {P = P})) (λ b. b) ones_from (λ s t h. ap length h.0) (λ s x t h. h) p s)

-- the iterator gives them from the back in reverse
pub ones_runs_back : {X Y : Type 0} (W : store.Ghosts X) (P : order.Ghosts Y) → YieldsInReverse (YieldsLast (ones_from {X = X} {Y = Y} {W = W} {P = P})) ones_from
ones_runs_back {X} {Y} W P p s = as_is_back p (ones_from p.from) (from_back (YieldsLast (ones_from {X = X} {Y = Y} {W = W} {P = P})) (λ b. b) ones_from (λ s t h. ap length h.0) (λ s x t h. h) p s)
