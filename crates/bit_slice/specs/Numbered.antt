-- How many bits of a kind are before an index, and where the k-th of them is.
use Rattle.std.specs.Prelude.{◌≡◌, ℕ, ◌^◌, ◌<◌, Bool, true, false, not, List, [], ◌∷◌, Some, count_by, length, slice_get, slice_index_or, take, refl}
use Rattle.bit_slice.specs.Places.{ones_of}

-- passes the items that are this bit
abbrev pub is_bit : Bool → Bool → Bool
is_bit true b = b
is_bit false b = not b

-- how many of the first i items are this bit
abbrev pub count_before : Bool → List Bool → ℕ → ℕ
count_before bit xs i = count_by (is_bit bit) (take i xs)

-- how many of the first i items are true
abbrev pub ones_before : List Bool → ℕ → ℕ
ones_before xs i = count_by (λ b. b) (take i xs)

-- how many of the first i items are false
abbrev pub zeros_before : List Bool → ℕ → ℕ
zeros_before xs i = count_by not (take i xs)

-- i is the index of the k-th item, from 0, of those that are this bit
pub record IsNumbered (bit : Bool) (xs : List Bool) (k i : ℕ) : Type 0 where
  pub inside : i < length xs
  pub here : slice_index_or xs i false ≡ bit
  pub before : count_before bit xs i ≡ k

-- a power of two
abbrev pub IsPower : ℕ → Type 0
IsPower n = (j : ℕ) × (n ≡ 2 ^ j)

abbrev five : List Bool
five = true ∷ true ∷ false ∷ true ∷ false ∷ []

three_before : ones_before five 4 ≡ 3
three_before = refl

one_before : zeros_before five 4 ≡ 1
one_before = refl

third_one : slice_get (ones_of five) 2 ≡ Some 3
third_one = refl
