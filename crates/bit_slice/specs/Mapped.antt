-- A list written chunk by chunk as numbers.
use Rattle.std.specs.Prelude.{◌≡◌, ℕ, ◌-◌, ◌*◌, min, Bool, true, false, List, [], ◌∷◌, ◌++◌, refl}
use Rattle.bit_addressing.specs.Row.{number_bits, number_of}
use Rattle.bit_slice.specs.Pieces.{part}

-- the number of the k-th of the chunks that a list is cut into, each of that size but perhaps the last
abbrev pub chunk_number : ℕ → List Bool → ℕ → ℕ
chunk_number size xs k = number_of (part size xs (k * size))

-- the list of that length whose chunks have these numbers
abbrev pub from_chunk_numbers : ℕ → ℕ → List ℕ → List Bool
from_chunk_numbers size len [] = []
from_chunk_numbers size len (n ∷ numbers) = number_bits n (min size len) ++ from_chunk_numbers size (len - size) numbers

abbrev five : List Bool
five = true ∷ true ∷ false ∷ true ∷ true ∷ []

second_chunk : chunk_number 3 five 1 ≡ 3
unfolding number_of
second_chunk = refl

of_three_and_two : from_chunk_numbers 3 5 (3 ∷ 3 ∷ []) ≡ five
unfolding number_bits
of_three_and_two = refl
