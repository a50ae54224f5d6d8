-- What a caller unfolds to compute the words of a vector whose bits are written out.
use Rattle.std.specs.Prelude.{⊤}
use Rattle.bit_addressing.specs.Row.{row_of, packed, words_for, put, sized, filled, moved}

-- where the vector is clean: its words from its list
unfoldable pub clean_on_literals : ⊤
unfolding row_of packed words_for sized
clean_on_literals = tt

-- any vector, dead bits included
unfoldable pub words_on_literals : ⊤
unfolding row_of packed words_for put sized filled moved
words_on_literals = tt
