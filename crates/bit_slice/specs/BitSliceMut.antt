-- Views for writing: their words, head, length, row and list.
use Rattle.std.specs.Borrow.{GName}
use Rattle.std.specs.Prelude.{ℕ, ◌+◌, Bool, List, length, slice_range}
use Rattle.bit_addressing.specs.declared.store.BitStore as store
use Rattle.bit_addressing.specs.declared.order.BitOrder as order
use Rattle.bit_addressing.specs.Typed.{row}
use Rattle.bit_slice.specs.Lists as list
use Rattle.bit_slice.specs.declared.slice_mut.BitSliceMut.{BitSliceMut}

-- the words that a view borrows
abbrev pub words_of : {X Y : Type 0} {W : store.Ghosts X} {P : order.Ghosts Y} → BitSliceMut X Y W P → List X
words_of v = v.words.now

-- the index of its first bit in its first word
abbrev pub head_of : {X Y : Type 0} {W : store.Ghosts X} {P : order.Ghosts Y} → BitSliceMut X Y W P → ℕ
head_of v = v.head

-- how many bits it has
abbrev pub len_of : {X Y : Type 0} {W : store.Ghosts X} {P : order.Ghosts Y} → BitSliceMut X Y W P → ℕ
len_of v = v.len

-- the bits of its words in a row, dead bits included
abbrev pub row_of : {X Y : Type 0} {W : store.Ghosts X} {P : order.Ghosts Y} → BitSliceMut X Y W P → List Bool
row_of {X} {Y} {W} {P} v = row W P v.words.now

-- its bits
abbrev pub list_of : {X Y : Type 0} {W : store.Ghosts X} {P : order.Ghosts Y} → BitSliceMut X Y W P → List Bool
list_of {X} {Y} {W} {P} v = slice_range (row W P v.words.now) v.head (v.head + v.len)

-- the loan of its words: what is written through a view lands in the words that were lent under this name
abbrev pub loan_of : {X Y : Type 0} {W : store.Ghosts X} {P : order.Ghosts Y} → BitSliceMut X Y W P → GName
loan_of v = v.words.ghost_name

-- how many words it borrows
abbrev pub count_of : {X Y : Type 0} {W : store.Ghosts X} {P : order.Ghosts Y} → BitSliceMut X Y W P → ℕ
count_of v = length v.words.now

-- what each write keeps
abbrev pub Stays : {X Y : Type 0} {W : store.Ghosts X} {P : order.Ghosts Y} → BitSliceMut X Y W P → BitSliceMut X Y W P → Type 0
Stays {X} {Y} {W} {P} = list.Stays (head_of {X = X} {Y = Y} {W = W} {P = P}) len_of count_of len_of loan_of
