-- Views for reading with a meter: their words, head, length, list and count.
use Rattle.std.specs.Prelude.{◌≡◌, ℕ, ◌+◌, ◌≤◌, Bool, List, slice_range}
use Rattle.bit_addressing.specs.declared.store.BitStore as store
use Rattle.bit_addressing.specs.declared.order.BitOrder as order
use Rattle.bit_addressing.specs.Typed.{row}
use Rattle.bit_slice.specs.declared.counted.Counted.{Counted}

-- the words that a view borrows
abbrev pub words_of : {X Y : Type 0} {W : store.Ghosts X} {P : order.Ghosts Y} → Counted X Y W P → List X
words_of v = v.row.words.now

-- the index of its first bit in its first word
abbrev pub head_of : {X Y : Type 0} {W : store.Ghosts X} {P : order.Ghosts Y} → Counted X Y W P → ℕ
head_of v = v.head

-- how many bits it has
abbrev pub len_of : {X Y : Type 0} {W : store.Ghosts X} {P : order.Ghosts Y} → Counted X Y W P → ℕ
len_of v = v.len

-- its bits
abbrev pub list_of : {X Y : Type 0} {W : store.Ghosts X} {P : order.Ghosts Y} → Counted X Y W P → List Bool
list_of {X} {Y} {W} {P} v = slice_range (row W P v.row.words.now) v.head (v.head + v.len)

-- how many words its meter counted as read
abbrev pub reads_of : {X Y : Type 0} {W : store.Ghosts X} {P : order.Ghosts Y} → Counted X Y W P → ℕ
reads_of v = v.row.meter.reads

-- a view after words of it were read: it is as before, and its count did not fall
pub record WasRead {X Y : Type 0} {W : store.Ghosts X} {P : order.Ghosts Y} (old new : Counted X Y W P) : Type 0 where
  pub words : words_of new ≡ words_of old
  pub head : head_of new ≡ head_of old
  pub len : len_of new ≡ len_of old
  pub reads : reads_of old ≤ reads_of new
