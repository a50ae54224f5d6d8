-- Views with a meter: their words, head, length, row, list and counts.
use Rattle.std.specs.Borrow.{GName}
use Rattle.std.specs.Prelude.{ℕ, ◌+◌, Bool, List, slice_range}
use Rattle.bit_addressing.specs.declared.store.BitStore as store
use Rattle.bit_addressing.specs.declared.order.BitOrder as order
use Rattle.bit_addressing.specs.Typed.{row}
use Rattle.bit_slice.specs.declared.counted_mut.CountedMut.{CountedMut}

-- the words that a view borrows
abbrev pub words_of : {X Y : Type 0} {W : store.Ghosts X} {P : order.Ghosts Y} → CountedMut X Y W P → List X
words_of v = v.row.words.now

-- the index of its first bit in its first word
abbrev pub head_of : {X Y : Type 0} {W : store.Ghosts X} {P : order.Ghosts Y} → CountedMut X Y W P → ℕ
head_of v = v.head

-- how many bits it has
abbrev pub len_of : {X Y : Type 0} {W : store.Ghosts X} {P : order.Ghosts Y} → CountedMut X Y W P → ℕ
len_of v = v.len

-- the bits of its words in a row, dead bits included
abbrev pub row_of : {X Y : Type 0} {W : store.Ghosts X} {P : order.Ghosts Y} → CountedMut X Y W P → List Bool
row_of {X} {Y} {W} {P} v = row W P v.row.words.now

-- its bits
abbrev pub list_of : {X Y : Type 0} {W : store.Ghosts X} {P : order.Ghosts Y} → CountedMut X Y W P → List Bool
list_of {X} {Y} {W} {P} v = slice_range (row W P v.row.words.now) v.head (v.head + v.len)

-- the loan of its words: what is written through a view lands in the words that were lent under this name
abbrev pub loan_of : {X Y : Type 0} {W : store.Ghosts X} {P : order.Ghosts Y} → CountedMut X Y W P → GName
loan_of v = v.row.words.ghost_name

-- how many words its meter counted as read
abbrev pub reads_of : {X Y : Type 0} {W : store.Ghosts X} {P : order.Ghosts Y} → CountedMut X Y W P → ℕ
reads_of v = v.row.meter.reads

-- how many words its meter counted as written
abbrev pub writes_of : {X Y : Type 0} {W : store.Ghosts X} {P : order.Ghosts Y} → CountedMut X Y W P → ℕ
writes_of v = v.row.meter.writes
