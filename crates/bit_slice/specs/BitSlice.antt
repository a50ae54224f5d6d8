-- Views for reading: their words, head, length, row and list.
use Rattle.std.specs.Prelude.{◌≡◌, ℕ, ◌+◌, ◌/◌, ◌%◌, Bool, List, slice_range}
use Rattle.bit_addressing.specs.declared.store.BitStore as store
use Rattle.bit_addressing.specs.declared.order.BitOrder as order
use Rattle.bit_addressing.specs.Row.{words_for}
use Rattle.bit_addressing.specs.Typed.{row}
use Rattle.bit_slice.specs.declared.slice.BitSlice.{BitSlice}

-- the words that a view borrows
abbrev pub words_of : {X Y : Type 0} {W : store.Ghosts X} {P : order.Ghosts Y} → BitSlice X Y W P → List X
words_of v = v.words.now

-- the index of its first bit in its first word
abbrev pub head_of : {X Y : Type 0} {W : store.Ghosts X} {P : order.Ghosts Y} → BitSlice X Y W P → ℕ
head_of v = v.head

-- how many bits it has
abbrev pub len_of : {X Y : Type 0} {W : store.Ghosts X} {P : order.Ghosts Y} → BitSlice X Y W P → ℕ
len_of v = v.len

-- the bits of its words in a row, dead bits included
abbrev pub row_of : {X Y : Type 0} {W : store.Ghosts X} {P : order.Ghosts Y} → BitSlice X Y W P → List Bool
row_of {X} {Y} {W} {P} v = row W P v.words.now

-- its bits
abbrev pub list_of : {X Y : Type 0} {W : store.Ghosts X} {P : order.Ghosts Y} → BitSlice X Y W P → List Bool
list_of {X} {Y} {W} {P} v = slice_range (row W P v.words.now) v.head (v.head + v.len)

-- where a view of a part of a list stands that begins at an index, in words whose list begins at `start`: its head, and its words, which are exactly those that have its bits
pub record IsPlaced {X Y : Type 0} {W : store.Ghosts X} {P : order.Ghosts Y} (words : List X) (start from : ℕ) (part : BitSlice X Y W P) : Type 0 where
  pub head : head_of part ≡ (start + from) % W.BITS
  pub taken : let first = (start + from) / W.BITS in words_of part ≡ slice_range words first (first + words_for W.BITS (head_of part + len_of part))
