-- Squares of 64 x 64 bits in 64 words: bit j of word i is the one in row i and column j.
use Rattle.std.specs.Prelude.{◌≡◌, ℕ, ◌+◌, ◌-◌, ◌*◌, ◌/◌, ◌%◌, ◌<◌, Bool, false, true, List, [], ◌∷◌, eqb, slice_index_or, refl}
use Rattle.bit_addressing.specs.Bits.{has_bit}

-- the bit in row i and column j
abbrev pub square_bit : List ℕ → ℕ → ℕ → Bool
square_bit words i j = has_bit (slice_index_or words i 0) j

-- a mask has the places below 64 whose binary digit `step` is 0
pub record IsLower (step mask : ℕ) : Type 0 where
  pub some : 0 < step
  pub few : step < 64
  pub places : (p : ℕ) → p < 64 → has_bit mask p ≡ eqb (p / step % 2) 0

-- a step of turning a square interleaves the rows of its two halves, and then digit `step` of a column and the lowest digit of a row are swapped: the row and the column that a bit comes from
abbrev pub source_row : ℕ → ℕ → ℕ → ℕ
source_row step i j = i / 2 + 32 * (j / step % 2)

abbrev pub source_column : ℕ → ℕ → ℕ → ℕ
source_column step i j = (j - step * (j / step % 2)) + step * (i % 2)

-- two rows, of which the second has the column 3
two_rows : List ℕ
two_rows = 5 ∷ 8 ∷ []

third_column : square_bit two_rows 0 2 ≡ true
unfolding two_rows
third_column = refl

fourth_column : square_bit two_rows 1 3 ≡ true
unfolding two_rows
fourth_column = refl

not_of_the_other : square_bit two_rows 1 2 ≡ false
unfolding two_rows
not_of_the_other = refl

-- rows of the halves in turn: the first of the upper half, the first of the lower half, the second of the upper half
upper_first : source_row 32 0 0 ≡ 0
upper_first = refl

lower_first : source_row 32 0 32 ≡ 32
lower_first = refl
