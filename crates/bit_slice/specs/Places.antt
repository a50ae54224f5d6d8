-- Where a bit stands in a list, and the indices of the items that are true or false.
use Rattle.std.specs.Prelude.{◌≡◌, ℕ, ◌+◌, ◌-◌, ◌%◌, ◌<◌, ◌≤◌, Bool, false, true, not, if◌then◌else◌, nat_lt, List, [], ◌∷◌, length, slice_index_or, slice_range, refl}
use Rattle.std.specs.List.{filter, range_with_len}
use Rattle.bit_addressing.specs.Bits.{has_bit}
use Rattle.bit_addressing.specs.Row.{number_of}

-- no index from lo up to hi has this bit
pub record IsAbsent (bit : Bool) (xs : List Bool) (lo hi : ℕ) : Type 0 where
  pub each : (j : ℕ) → lo ≤ j → j < hi → slice_index_or xs j false ≡ not bit

-- i is the first index from lo up to hi with this bit
pub record IsNext (bit : Bool) (xs : List Bool) (lo hi i : ℕ) : Type 0 where
  pub begins : lo ≤ i
  pub within : i < hi
  pub here : slice_index_or xs i false ≡ bit
  pub before : IsAbsent bit xs lo i

-- i is the last index from lo up to hi with this bit
pub record IsLast (bit : Bool) (xs : List Bool) (lo hi i : ℕ) : Type 0 where
  pub begins : lo ≤ i
  pub within : i < hi
  pub here : slice_index_or xs i false ≡ bit
  pub after : IsAbsent bit xs (i + 1) hi

-- bit q of two numbers of 64 bits, those of the second after those of the first
abbrev pub bit_of_two : ℕ → ℕ → ℕ → Bool
bit_of_two low high q = if nat_lt q 64 then has_bit low q else has_bit high (q - 64)

-- from place p on, two numbers have the m lowest bits of a pattern
abbrev pub HasAt : ℕ → ℕ → ℕ → ℕ → ℕ → Type 0
HasAt low high pattern m p = (q : ℕ) → q < m → bit_of_two low high (p + q) ≡ has_bit pattern q

-- a number is that of the items from lo up to hi, which are at most 64
pub record IsChunk (xs : List Bool) (lo hi chunk : ℕ) : Type 0 where
  pub ordered : lo ≤ hi
  pub few : hi ≤ lo + 64
  pub number : chunk ≡ number_of (slice_range xs lo hi)

-- from its lowest set bit on, a number has the bits of the items from lo up to hi, which are at most 64; it has no bit after them
pub record IsChunkLeft (xs : List Bool) (lo hi chunk : ℕ) : Type 0 where
  pub ordered : lo ≤ hi
  pub few : hi ≤ lo + 64
  pub same : (k j : ℕ) → has_bit chunk k ≡ true → k ≤ j → lo + j < hi → has_bit chunk j ≡ slice_index_or xs (lo + j) false
  pub past : (j : ℕ) → hi ≤ lo + j → has_bit chunk j ≡ false

-- whole blocks of 64 bits lie from lo up to end, which is at most hi, or none does
pub record BlocksFit (head lo hi end : ℕ) : Type 0 where
  pub inside : end ≤ hi
  pub blocks : lo < end → ((head + lo) % 64 ≡ 0) × ((head + end) % 64 ≡ 0)

-- the indices from lo up to hi whose items pass a test, ascending
abbrev pub places_between : (Bool → Bool) → List Bool → ℕ → ℕ → List ℕ
places_between p xs lo hi = filter (λ i. p (slice_index_or xs i false)) (range_with_len lo (hi - lo))

-- the indices of the items that are true, ascending
abbrev pub ones_of : List Bool → List ℕ
ones_of xs = filter (λ i. slice_index_or xs i false) (range_with_len 0 (length xs))

-- the indices of the items that are false, ascending
abbrev pub zeros_of : List Bool → List ℕ
zeros_of xs = filter (λ i. not (slice_index_or xs i false)) (range_with_len 0 (length xs))

abbrev five : List Bool
five = true ∷ true ∷ false ∷ true ∷ false ∷ []

ones_of_five : ones_of five ≡ 0 ∷ 1 ∷ 3 ∷ []
ones_of_five = refl

zeros_of_five : zeros_of five ≡ 2 ∷ 4 ∷ []
zeros_of_five = refl
