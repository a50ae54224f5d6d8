-- What an operator leaves of a list, and of a container whose list has a head.
use Rattle.std.specs.Prelude.{◌≡◌, ℕ, Bool, ◌&&◌, not, List, []}
use Rattle.bit_addressing.specs.Row.{put}
use Rattle.bit_addressing.specs.declared.store.BitStore as store
use Rattle.bit_addressing.specs.declared.order.BitOrder as order
use Rattle.bit_slice.specs.BitSliceMut.{head_of, list_of, row_of, Stays}
use Rattle.bit_slice.specs.Clean.{StaysClean}
use Rattle.bit_slice.specs.Held.{Held, IsClean, Stayed}
use Rattle.bit_slice.specs.Operators.{CombinesEach}
use Rattle.bit_slice.specs.declared.slice_mut.BitSliceMut.{BitSliceMut}

-- at each index of both lists, the third has true where the first alone has
abbrev pub AndNotsEach : List Bool → List Bool → List Bool → Type 0
AndNotsEach = CombinesEach (λ x y. x && not y)

-- the list is written over with these bits: no other bit of the row changes, and a clean container stays clean
abbrev pub IsAssigned : {X : Type 0} → ℕ → List Bool → Held X → Held X → Type 0
IsAssigned w bits old new = (new.list ≡ bits) × (new.row ≡ put old.row old.head bits) × Stayed old new × (IsClean w old → IsClean w new)

-- the same of a view for writing, whose words are those that were lent
abbrev pub IsAssignedThrough : {X Y : Type 0} {W : store.Ghosts X} {P : order.Ghosts Y} → List Bool → BitSliceMut X Y W P → BitSliceMut X Y W P → Type 0
IsAssignedThrough {W = W} bits old new = (list_of new ≡ bits) × (row_of new ≡ put (row_of old) (head_of old) bits) × Stays old new × StaysClean W.BITS head_of row_of list_of old new

-- a container with no bit and no word, which has taken no memory
abbrev pub IsEmpty : {X : Type 0} → ℕ → Held X → Type 0
IsEmpty w v = (v.list ≡ []) × (v.words ≡ []) × (v.head ≡ 0) × (v.capacity ≡ 0) × IsClean w v
