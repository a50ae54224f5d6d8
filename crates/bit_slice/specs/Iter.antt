-- Iterators over the bits of a view.
use Rattle.std.specs.Prelude.{Bool, List, slice_range}
use Rattle.bit_addressing.specs.declared.store.BitStore as store
use Rattle.bit_addressing.specs.declared.order.BitOrder as order
use Rattle.bit_addressing.specs.Typed.{row}
use Rattle.bit_slice.specs.declared.iter.Iter.{Iter}

-- the bits that an iterator has left
abbrev pub rest_of : {X Y : Type 0} {W : store.Ghosts X} {P : order.Ghosts Y} → Iter X Y W P → List Bool
rest_of {X} {Y} {W} {P} s = slice_range (row W P s.words.now) s.from s.upto
