-- What an iterator over records has left.
use Rattle.std.specs.Prelude.{ℕ, List, slice_range}
use Rattle.bit_addressing.specs.declared.store.BitStore as store
use Rattle.bit_addressing.specs.declared.order.BitOrder as order
use Rattle.bit_records.specs.declared.iter.Iter.{Iter}

-- the numbers that are left
abbrev pub numbers_left : {X Y : Type 0} {W : store.Ghosts X} {P : order.Ghosts Y} → Iter X Y W P → List ℕ
numbers_left s = slice_range s.records.now.list s.from s.upto
