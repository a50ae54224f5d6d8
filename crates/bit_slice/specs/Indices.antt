-- Iterators over the indices of a view's bits that are true, and of those that are false.
use Rattle.std.specs.Prelude.{ℕ, ◌+◌, List, min, not}
use Rattle.std.specs.Int.{trailing_zeros, w64}
use Rattle.bit_addressing.specs.declared.store.BitStore as store
use Rattle.bit_addressing.specs.declared.order.BitOrder as order
use Rattle.bit_slice.specs.BitSlice.{list_of}
use Rattle.bit_slice.specs.Places.{places_between}
use Rattle.bit_slice.specs.declared.slice.indices.IterOnes.{IterOnes}
use Rattle.bit_slice.specs.declared.slice.indices.IterZeros.{IterZeros}

-- the index of the lowest bit of an iterator's chunk, or the chunk's end where no bit of it is set
abbrev pub next_of : {X Y : Type 0} {W : store.Ghosts X} {P : order.Ghosts Y} → IterOnes X Y W P → ℕ
next_of s = min s.end (s.base + trailing_zeros w64 s.chunk)

-- the indices that an iterator over the true bits has left
abbrev pub ones_left : {X Y : Type 0} {W : store.Ghosts X} {P : order.Ghosts Y} → IterOnes X Y W P → List ℕ
ones_left s = places_between (λ b. b) (list_of s.view) (next_of s) s.upto

-- the indices that an iterator over the false bits has left
abbrev pub zeros_left : {X Y : Type 0} {W : store.Ghosts X} {P : order.Ghosts Y} → IterZeros X Y W P → List ℕ
zeros_left s = places_between not (list_of s.view) s.from s.upto
