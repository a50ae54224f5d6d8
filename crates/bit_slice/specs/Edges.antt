-- Where the runs of equal items of a list begin.
use Rattle.std.specs.Prelude.{◌≡◌, ℕ, ◌+◌, ◌<◌, Bool, true, false, List, [], ◌∷◌, min, refl, slice_index_or}
use Rattle.std.specs.Int.{trailing_zeros, w64}
use Rattle.bit_slice.specs.Operators.{xor_of}
use Rattle.bit_slice.specs.Places.{IsAbsent}

-- for each item whether it differs from the one before it; the first item does
abbrev pub edges_of : List Bool → List Bool
edges_of [] = []
edges_of (x ∷ xs) = true ∷ xor_of xs (x ∷ xs)

-- the index of the lowest bit of a number of the items from lo up to hi, or hi where no bit of it is set
abbrev pub first_in : ℕ → ℕ → ℕ → ℕ
first_in lo hi chunk = min hi (lo + trailing_zeros w64 chunk)

-- a run of equal items begins at an index, and goes on up to another at least
pub record IsRunUpto (bit : Bool) (xs : List Bool) (start upto : ℕ) : Type 0 where
  pub begins : slice_index_or (edges_of xs) start false ≡ true
  pub here : slice_index_or xs start false ≡ bit
  pub ordered : start < upto
  pub same : IsAbsent true (edges_of xs) (start + 1) upto

abbrev five : List Bool
five = true ∷ true ∷ false ∷ true ∷ true ∷ []

edges_of_five : edges_of five ≡ true ∷ false ∷ true ∷ true ∷ false ∷ []
edges_of_five = refl
