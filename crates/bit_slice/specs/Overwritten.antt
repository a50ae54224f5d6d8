-- The list that a container keeps in words from a head on, and what is written in it.
use Rattle.std.specs.Prelude.{◌≡◌, ℕ, ◌+◌, ◌*◌, ◌<◌, ◌≤◌, Bool, List, length, slice_get, slice_range}
use Rattle.bit_addressing.specs.declared.store.BitStore as store
use Rattle.bit_addressing.specs.declared.order.BitOrder as order
use Rattle.bit_addressing.specs.Row.{moved, put}
use Rattle.bit_addressing.specs.Typed.{row as row_of}
use Rattle.bit_slice.specs.Clean.{IsCleanRow}

-- the list of that many bits that begins at a head in the words' row
abbrev pub list_in : {X Y : Type 0} → store.Ghosts X → order.Ghosts Y → List X → ℕ → ℕ → List Bool
list_in W P ws head len = slice_range (row_of W P ws) head (head + len)

-- each bit before an index is as it was
abbrev pub StaysBefore : ℕ → List Bool → List Bool → Type 0
StaysBefore at old new = (j : ℕ) → j < at → slice_get new j ≡ slice_get old j

-- each bit from an index on is as it was
abbrev pub StaysFrom : ℕ → List Bool → List Bool → Type 0
StaysFrom at old new = (j : ℕ) → at ≤ j → slice_get new j ≡ slice_get old j

-- bits were written in the list from one index up to another: the words are as many, each other bit of their row stays, and a clean row is clean afterwards
pub record IsWritten {X Y : Type 0} (W : store.Ghosts X) (P : order.Ghosts Y) (old new : List X) (head len start end : ℕ) (bits : List Bool) : Type 0 where
  pub row : row_of W P new ≡ put (row_of W P old) (head + start) bits
  pub list : list_in W P new head len ≡ put (list_in W P old head len) start bits
  pub written : slice_range (list_in W P new head len) start end ≡ bits
  pub before : StaysBefore start (list_in W P old head len) (list_in W P new head len)
  pub after : StaysFrom end (list_in W P old head len) (list_in W P new head len)
  pub clean : IsCleanRow W.BITS head (row_of W P old) (list_in W P old head len) → IsCleanRow W.BITS head (row_of W P new) (list_in W P new head len)
  pub size : length new ≡ length old

-- the list was written over by another: the words are as many, each other bit of their row stays, a row that the list was all of is the new list, and a clean row is clean afterwards
pub record IsRewritten {X Y : Type 0} (W : store.Ghosts X) (P : order.Ghosts Y) (old new : List X) (head len : ℕ) (bits : List Bool) : Type 0 where
  pub row : row_of W P new ≡ put (row_of W P old) head bits
  pub list : list_in W P new head len ≡ bits
  pub whole : head ≡ 0 → len ≡ W.BITS * length old → row_of W P new ≡ bits
  pub clean : IsCleanRow W.BITS head (row_of W P old) (list_in W P old head len) → IsCleanRow W.BITS head (row_of W P new) (list_in W P new head len)
  pub size : length new ≡ length old

-- n bits of the list were moved from one index on to another: the words are as many, each other bit of their row stays, and a clean row is clean afterwards
pub record IsMovedWithin {X Y : Type 0} (W : store.Ghosts X) (P : order.Ghosts Y) (old new : List X) (head len start dest n : ℕ) : Type 0 where
  pub row : row_of W P new ≡ moved (row_of W P old) (head + start) (head + dest) n
  pub list : list_in W P new head len ≡ moved (list_in W P old head len) start dest n
  pub landed : slice_range (list_in W P new head len) dest (dest + n) ≡ slice_range (list_in W P old head len) start (start + n)
  pub clean : IsCleanRow W.BITS head (row_of W P old) (list_in W P old head len) → IsCleanRow W.BITS head (row_of W P new) (list_in W P new head len)
  pub size : length new ≡ length old
