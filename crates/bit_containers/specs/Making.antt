-- What calls make of other lists, of bytes, of indices and of text.
use Rattle.std.specs.Prelude.{◌≡◌, ℕ, ◌+◌, ◌-◌, ◌/◌, ◌^◌, ◌<◌, Bool, true, false, List, [], ◌∷◌, ◌++◌, fold, length, replicate, set, slice_index_or, refl}
use Rattle.bit_addressing.specs.Row.{number_bits}
use Rattle.bit_slice.specs.Operators.{or_of, xor_of}

-- a list, with false appended to it up to n items where it has fewer
abbrev pub filled_up : List Bool → ℕ → List Bool
filled_up xs n = xs ++ replicate (n - length xs) false

-- the third list has at each of its indices what f makes of the items of both there; an item past an end counts as false
abbrev pub CombinesAll : (Bool → Bool → Bool) → List Bool → List Bool → List Bool → Type 0
CombinesAll f xs ys zs = (i : ℕ) → i < length zs → slice_index_or zs i false ≡ f (slice_index_or xs i false) (slice_index_or ys i false)

-- n bits, true at these indices and false at the others
abbrev pub marked : ℕ → List ℕ → List Bool
marked n indices = fold (λ bits i. set bits i true) (replicate n false) indices

-- the n highest of a number's 64 bits, the lowest of them first
unfoldable pub highest_bits : ℕ → ℕ → List Bool
highest_bits x n = number_bits (x / 2 ^ (64 - n)) n

three_highest : highest_bits (2 ^ 63 + 2 ^ 61 + 1) 3 ≡ true ∷ false ∷ true ∷ []
unfolding highest_bits number_bits
three_highest = refl

filled_shorter : filled_up (true ∷ []) 3 ≡ true ∷ false ∷ false ∷ []
filled_shorter = refl

filled_longer : filled_up (true ∷ false ∷ []) 1 ≡ true ∷ false ∷ []
filled_longer = refl

or_with_longer : or_of (filled_up (true ∷ []) 3) (false ∷ true ∷ false ∷ []) ≡ true ∷ true ∷ false ∷ []
or_with_longer = refl

xor_with_longer : xor_of (filled_up (true ∷ true ∷ []) 3) (true ∷ false ∷ true ∷ []) ≡ false ∷ true ∷ true ∷ []
xor_with_longer = refl

marked_twice : marked 5 (3 ∷ 0 ∷ 3 ∷ []) ≡ true ∷ false ∷ false ∷ true ∷ false ∷ []
marked_twice = refl

marked_nowhere : marked 2 [] ≡ false ∷ false ∷ []
marked_nowhere = refl
