-- The row of words of a type, in an order: the one bridge from words of the code to rows.
use Rattle.std.specs.Prelude.{Bool, List, map}
use Rattle.bit_addressing.specs.declared.store.BitStore as store
use Rattle.bit_addressing.specs.declared.order.BitOrder as order
use Rattle.bit_addressing.specs.Row.{row_of, packed, list_words}

module _ {X Y : Type 0} (W : store.Ghosts X) (P : order.Ghosts Y) where
  -- the bits of these words in a row
  abbrev pub row : List X → List Bool
  row words = row_of P.place W.BITS (map W.value words)

  -- the words whose row is this list
  abbrev pub words_from : List Bool → List X
  words_from bits = map W.number (packed P.place W.BITS bits)

  -- the words for a list: its bits, and 0 after them
  abbrev pub words_for_list : List Bool → List X
  words_for_list bits = map W.number (list_words P.place W.BITS bits)
