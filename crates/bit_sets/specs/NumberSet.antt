-- Sets of the numbers below a bound, as lists of truth values: item k says whether k is in the set.
use Rattle.std.specs.Prelude.{◌≡◌, ◌≢◌, ℕ, ◌+◌, ◌%◌, ◌<◌, ◌≤◌, Bool, false, true, List, [], ◌∷◌, ◌++◌, Some, codes, slice_get, refl}
use Rattle.std.specs.Fmt.{decimal, digits}
use Rattle.std.specs.List.{flat_map}
use Rattle.bit_slice.specs.Places.{ones_of, places_between}

-- k is in the set
abbrev pub IsIn : List Bool → ℕ → Type 0
IsIn set k = slice_get set k ≡ Some true

-- the numbers of a set from a up to b, ascending
abbrev pub numbers_between : List Bool → ℕ → ℕ → List ℕ
numbers_between set a b = places_between (λ bit. bit) set a b

-- p is at least 2, and no number between 1 and p divides it
abbrev pub IsPrime : ℕ → Type 0
IsPrime p = (2 ≤ p) × ((d : ℕ) → 2 ≤ d → d < p → p % d ≢ 0)

-- k is at least 2, and no smaller number from 2 up to d divides it
abbrev pub IsSieved : ℕ → ℕ → Type 0
IsSieved d k = (2 ≤ k) × ((e : ℕ) → 2 ≤ e → e < d → e < k → k % e ≢ 0)

-- numbers, each after the first with a comma and a space before it
abbrev pub numbers_text : List ℕ → List ℕ
numbers_text [] = []
numbers_text (n ∷ ns) = decimal n ++ flat_map (λ k. 44 ∷ 32 ∷ decimal k) ns

-- the numbers of a set between braces
abbrev pub set_text : List Bool → List ℕ
set_text set = 123 ∷ numbers_text (ones_of set) ++ 125 ∷ []

no_number : set_text (false ∷ []) ≡ codes "{}"
no_number = refl

some_numbers : set_text (false ∷ true ∷ true ∷ false ∷ true ∷ []) ≡ codes "{1, 2, 4}"
unfolding digits
some_numbers = refl

some_between : numbers_between (true ∷ true ∷ false ∷ true ∷ true ∷ []) 1 4 ≡ 1 ∷ 3 ∷ []
some_between = refl
