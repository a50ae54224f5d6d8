-- Where writes through the view of the bits that an iterator has left land.
use Rattle.std.specs.Prelude.{◌+◌, ◌/◌, List, length, slice_range}
use Rattle.std.specs.Borrow.{follows, Fml, RattleType, MutBor, Array, GName}
use Rattle.std.specs.List.{refill}
use Rattle.bit_addressing.specs.declared.store.BitStore as store
use Rattle.bit_addressing.specs.declared.order.BitOrder as order
use Rattle.bit_addressing.specs.Typed.{row}
use Rattle.bit_boxed.specs.IntoIter.{Left}
use Rattle.bit_boxed.specs.Lends.{written_over}
use Rattle.bit_boxed.specs.contracts.boxed.iter.IntoIter.{the_row}

module _ {X Y : Type 0} (W : store.Ghosts X) (P : order.Ghosts Y) where
  -- the iterator with other words, as many; the bits that are left are that part of their row, and `refill` shows that they are as many as before
  abbrev pub with_words : Left X → List X → Left X
  with_words v ws =
      record { words = refill (length v.words) v.words ws; head = v.head; list = refill (length v.list) v.list (slice_range (row W P (refill (length v.words) v.words ws)) v.head (v.head + length v.list)) }

-- the iterator ends with the words that a view of its bits has at its end: the words around them stay
abbrev pub lends_left : (T O : RattleType) (W : store.Ghosts T.Denot) (P : order.Ghosts O.Denot) → MutBor (Left T.Denot) → GName → Fml
lends_left T O W P v n = follows (the_row T O W P) (Array T 0) v.ghost_name n (λ ws. with_words W P v.now (written_over v.now.words (v.now.head / W.BITS) ws))
