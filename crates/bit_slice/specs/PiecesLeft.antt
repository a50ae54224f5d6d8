-- Iterators over the parts of a view.
use Rattle.std.specs.Iterator.{YieldsFirstBy, YieldsLastBy}
use Rattle.std.specs.Prelude.{◌≡◌, ℕ, ◌+◌, ◌-◌, ◌*◌, ◌/◌, Bool, List, Option, drop, map}
use Rattle.std.specs.List.{range_with_len}
use Rattle.bit_addressing.specs.declared.store.BitStore as store
use Rattle.bit_addressing.specs.declared.order.BitOrder as order
use Rattle.bit_slice.specs.BitSlice.{head_of, len_of, list_of, words_of, IsPlaced}
use Rattle.bit_slice.specs.Pieces.{part, part_back}
use Rattle.bit_slice.specs.declared.slice.BitSlice.{BitSlice}
use Rattle.bit_slice.specs.declared.slice.chunks.Chunks.{Chunks}
use Rattle.bit_slice.specs.declared.slice.chunks.ChunksExact.{ChunksExact}
use Rattle.bit_slice.specs.declared.slice.chunks.RChunks.{RChunks}
use Rattle.bit_slice.specs.declared.slice.chunks.Windows.{Windows}

-- the lists of the chunks that are left
abbrev pub chunks_left : {X Y : Type 0} {W : store.Ghosts X} {P : order.Ghosts Y} → Chunks X Y W P → List (List Bool)
chunks_left s = map (λ k. part s.size (list_of s.view) (k * s.size)) (range_with_len s.from (s.upto - s.from))

-- the lists of the exact chunks that are left
abbrev pub exact_chunks_left : {X Y : Type 0} {W : store.Ghosts X} {P : order.Ghosts Y} → ChunksExact X Y W P → List (List Bool)
exact_chunks_left s = map (λ k. part s.size (list_of s.view) (k * s.size)) (range_with_len s.from (s.upto - s.from))

-- the bits that no exact chunk has
abbrev pub remainder_of : {X Y : Type 0} {W : store.Ghosts X} {P : order.Ghosts Y} → ChunksExact X Y W P → List Bool
remainder_of s = drop (len_of s.view / s.size * s.size) (list_of s.view)

-- a call that gives the first exact chunk that is left: the remainder stays
abbrev pub exact_first : {X Y : Type 0} {W : store.Ghosts X} {P : order.Ghosts Y} → ChunksExact X Y W P → Option (BitSlice X Y W P) → ChunksExact X Y W P → Type 0
exact_first s r t = YieldsFirstBy list_of exact_chunks_left s r t × (remainder_of t ≡ remainder_of s)

-- the same of the last one
abbrev pub exact_last : {X Y : Type 0} {W : store.Ghosts X} {P : order.Ghosts Y} → ChunksExact X Y W P → Option (BitSlice X Y W P) → ChunksExact X Y W P → Type 0
exact_last s r t = YieldsLastBy list_of exact_chunks_left s r t × (remainder_of t ≡ remainder_of s)

-- the lists of the chunks from the end that are left
abbrev pub back_chunks_left : {X Y : Type 0} {W : store.Ghosts X} {P : order.Ghosts Y} → RChunks X Y W P → List (List Bool)
back_chunks_left s = map (λ k. part_back s.size (list_of s.view) (k * s.size)) (range_with_len s.from (s.upto - s.from))

-- the lists of the windows that are left
abbrev pub windows_left : {X Y : Type 0} {W : store.Ghosts X} {P : order.Ghosts Y} → Windows X Y W P → List (List Bool)
windows_left s = map (λ k. part s.size (list_of s.view) k) (range_with_len s.from (s.upto - s.from))

-- how far an iterator over parts of a view is: the view, the size of a part, the number of the first part that is left, and the number of the one after the last
pub record Walk {X Y : Type 0} (W : store.Ghosts X) (P : order.Ghosts Y) : Type 0 where
  pub view : BitSlice X Y W P
  pub size : ℕ
  pub from : ℕ
  pub upto : ℕ

-- how far an iterator over chunks is
abbrev pub chunks_walk : {X Y : Type 0} {W : store.Ghosts X} {P : order.Ghosts Y} → Chunks X Y W P → Walk W P
chunks_walk s = record { view = s.view; size = s.size; from = s.from; upto = s.upto }

-- how far an iterator over exact chunks is
abbrev pub exact_chunks_walk : {X Y : Type 0} {W : store.Ghosts X} {P : order.Ghosts Y} → ChunksExact X Y W P → Walk W P
exact_chunks_walk s = record { view = s.view; size = s.size; from = s.from; upto = s.upto }

-- how far an iterator over chunks from the end is
abbrev pub back_chunks_walk : {X Y : Type 0} {W : store.Ghosts X} {P : order.Ghosts Y} → RChunks X Y W P → Walk W P
back_chunks_walk s = record { view = s.view; size = s.size; from = s.from; upto = s.upto }

-- how far an iterator over windows is
abbrev pub windows_walk : {X Y : Type 0} {W : store.Ghosts X} {P : order.Ghosts Y} → Windows X Y W P → Walk W P
windows_walk s = record { view = s.view; size = s.size; from = s.from; upto = s.upto }

-- an iterator begins with all parts of n items of a list that begins at an index of words
pub record BeginsIn {X Y : Type 0} {W : store.Ghosts X} {P : order.Ghosts Y} (ws : List X) (start count n parts : ℕ) (w : Walk W P) : Type 0 where
  pub head : head_of w.view ≡ start
  pub len : len_of w.view ≡ count
  pub words : words_of w.view ≡ ws
  pub size : w.size ≡ n
  pub from : w.from ≡ 0
  pub upto : w.upto ≡ parts

-- a step from the front gives the part that begins at an index of the view, where one is left, and goes on with the next
pub record StepsForward {X Y : Type 0} {W : store.Ghosts X} {P : order.Ghosts Y} (at : ℕ) (old : Walk W P) (given : BitSlice X Y W P) (new : Walk W P) : Type 0 where
  pub place : IsPlaced (words_of old.view) (head_of old.view) at given
  pub view : new.view ≡ old.view
  pub size : new.size ≡ old.size
  pub from : new.from ≡ old.from + 1
  pub upto : new.upto ≡ old.upto

-- the same from the end
pub record StepsBack {X Y : Type 0} {W : store.Ghosts X} {P : order.Ghosts Y} (at : ℕ) (old : Walk W P) (given : BitSlice X Y W P) (new : Walk W P) : Type 0 where
  pub place : IsPlaced (words_of old.view) (head_of old.view) at given
  pub view : new.view ≡ old.view
  pub size : new.size ≡ old.size
  pub from : new.from ≡ old.from
  pub upto : new.upto + 1 ≡ old.upto
