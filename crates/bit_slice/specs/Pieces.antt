-- The parts of a list by their number: side by side from the front or from the end, and each run of n items.
use Rattle.std.specs.Prelude.{◌≡◌, ℕ, ◌+◌, ◌-◌, ◌*◌, ◌/◌, ◌%◌, min, Bool, true, false, List, [], ◌∷◌, map, take, drop, length, slice_range, refl}
use Rattle.std.specs.List.{range_with_len}

-- n items from index i on, or those that are left
abbrev pub part : ℕ → List Bool → ℕ → List Bool
part n xs i = take n (drop i xs)

-- n items before the last i, or those that are left
abbrev pub part_back : ℕ → List Bool → ℕ → List Bool
part_back n xs i = slice_range xs (length xs - i - n) (length xs - i)

-- how many parts of n items there are, where one may be shorter
abbrev pub chunk_count : ℕ → ℕ → ℕ
chunk_count len n = len / n + min 1 (len % n)

-- parts of n items side by side: the last has what is left
abbrev pub chunks_of : ℕ → List Bool → List (List Bool)
chunks_of n xs = map (λ k. part n xs (k * n)) (range_with_len 0 (chunk_count (length xs) n))

-- parts of n items side by side, as many as have n
abbrev pub exact_chunks_of : ℕ → List Bool → List (List Bool)
exact_chunks_of n xs = map (λ k. part n xs (k * n)) (range_with_len 0 (length xs / n))

-- parts of n items side by side from the end: the last, at the front, has what is left
abbrev pub back_chunks_of : ℕ → List Bool → List (List Bool)
back_chunks_of n xs = map (λ k. part_back n xs (k * n)) (range_with_len 0 (chunk_count (length xs) n))

-- each run of n items, one for each index at which one begins
abbrev pub windows_of : ℕ → List Bool → List (List Bool)
windows_of n xs = map (λ k. part n xs k) (range_with_len 0 (length xs + 1 - n))

abbrev five : List Bool
five = true ∷ true ∷ false ∷ true ∷ false ∷ []

chunks_of_two : chunks_of 2 five ≡ (true ∷ true ∷ []) ∷ (false ∷ true ∷ []) ∷ (false ∷ []) ∷ []
chunks_of_two = refl

exact_chunks_of_two : exact_chunks_of 2 five ≡ (true ∷ true ∷ []) ∷ (false ∷ true ∷ []) ∷ []
exact_chunks_of_two = refl

back_chunks_of_two : back_chunks_of 2 five ≡ (true ∷ false ∷ []) ∷ (true ∷ false ∷ []) ∷ (true ∷ []) ∷ []
back_chunks_of_two = refl

windows_of_four : windows_of 4 five ≡ (true ∷ true ∷ false ∷ true ∷ []) ∷ (true ∷ false ∷ true ∷ false ∷ []) ∷ []
windows_of_four = refl
