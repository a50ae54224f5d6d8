-- What an iterator over the ones from a given one on has left.
use Rattle.std.specs.Prelude.{ℕ, ◌+◌, List, map}
use Rattle.bit_addressing.specs.declared.store.BitStore as store
use Rattle.bit_addressing.specs.declared.order.BitOrder as order
use Rattle.bit_slice.specs.Indices.{ones_left}
use Rattle.bit_ranks.specs.declared.ones.OnesFrom.{OnesFrom}

-- the indices that are left
abbrev pub ones_from : {X Y : Type 0} {W : store.Ghosts X} {P : order.Ghosts Y} → OnesFrom X Y W P → List ℕ
ones_from s = map (λ i. s.base + i) (ones_left s.ones)
