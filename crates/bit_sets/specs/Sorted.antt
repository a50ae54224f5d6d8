-- Ascending numbers in two lists: ones whose indices say the high bits of each, and the low bits of each in binary.
use Rattle.std.specs.Prelude.{◌≡◌, ℕ, ◌+◌, ◌-◌, ◌*◌, ◌/◌, ◌^◌, ◌<◌, ◌≤◌, leb, Bool, true, false, List, [], ◌∷◌, All, count_by, length, map, max, slice_index_or, slice_range, take, refl}
use Rattle.std.specs.List.{range_with_len}
use Rattle.std.specs.List.Sorted.{IsNonDecreasing}
use Rattle.bit_addressing.specs.Binary.{value}
use Rattle.bit_addressing.specs.declared.length.TheConstants.{MAX_BITS}
use Rattle.bit_slice.specs.Places.{ones_of}
use Rattle.bit_slice.specs.Numbered.{ones_before}

-- the high bits of number k: how many zeros are before the k-th one
abbrev pub high_part : List Bool → ℕ → ℕ
high_part high k = slice_index_or (ones_of high) k 0 - k

-- the low bits of number k: what its w digits write
abbrev pub low_part : ℕ → List Bool → ℕ → ℕ
low_part w low k = value (slice_range low (k * w) (k * w + w))

-- number k of two lists, of which w bits are low
abbrev pub number_at : ℕ → List Bool → List Bool → ℕ → ℕ
number_at w high low k = high_part high k * 2 ^ w + low_part w low k

-- the first n numbers of two lists
unfoldable pub numbers_of : ℕ → ℕ → List Bool → List Bool → List ℕ
numbers_of n w high low = map (number_at w high low) (range_with_len 0 n)

-- the last number, or 0 where there is none
abbrev pub last_of : List ℕ → ℕ
last_of xs = slice_index_or xs (length xs - 1) 0

-- how many of the powers 2, 4, 8, .. 2 ^ 63 a number reaches: its logarithm
unfoldable pub log2_of : ℕ → ℕ
log2_of n = count_by (λ j. leb (2 ^ (j + 1)) n) (range_with_len 0 63)

-- how many bits of each number are low: the logarithm of the mean gap
abbrev pub low_width : List ℕ → ℕ
low_width xs = log2_of (last_of xs / length xs)

-- how many bits the list of high parts takes: a one for each number, and a zero for each step of the last one's high part
abbrev pub high_len : List ℕ → ℕ
high_len xs = length xs + last_of xs / 2 ^ low_width xs

-- how many bits the list of low parts takes
abbrev pub low_len : List ℕ → ℕ
low_len xs = length xs * low_width xs

-- one of the two lists has more bits than a container holds
abbrev pub IsTooLong : List ℕ → Type 0
IsTooLong xs = MAX_BITS < max (high_len xs) (low_len xs)

-- the indices of the ones of the first n numbers, of which w bits are low
unfoldable pub high_places : ℕ → List ℕ → ℕ → List ℕ
high_places w xs n = map (λ k. slice_index_or xs k 0 / 2 ^ w + k) (range_with_len 0 n)

-- i is the index of the first number that is below the one before
pub record IsFirstDescent (xs : List ℕ) (i : ℕ) : Type 0 where
  pub after_one : 0 < i
  pub inside : i < length xs
  pub below : slice_index_or xs i 0 < slice_index_or xs (i - 1) 0
  pub before : IsNonDecreasing (take i xs)

-- these n numbers ascend, fit in 64 bits, and have as many low bits as their mean gap needs
pub record IsPacked (n w : ℕ) (high low : List Bool) : Type 0 where
  pub ones : length (ones_of high) ≡ n
  pub lows : length low ≡ n * w
  pub few : n * w ≤ MAX_BITS
  pub held : length high ≤ MAX_BITS
  pub narrow : w < 64
  pub ascends : IsNonDecreasing (numbers_of n w high low)
  pub fits : All (λ number. number < 2 ^ 64) (numbers_of n w high low)
  pub width : w ≡ low_width (numbers_of n w high low)
  pub size : length high ≡ high_len (numbers_of n w high low)

-- r numbers have high bits of at most h, and the next number has its one at index r + h or after it
pub record IsUptoHigh (high : List Bool) (h r : ℕ) : Type 0 where
  pub within : r ≤ length (ones_of high)
  pub before : (k : ℕ) → k < r → high_part high k ≤ h
  pub after : (k : ℕ) → r ≤ k → k < length (ones_of high) → h < high_part high k
  pub next : ones_before high (r + h) ≡ r
  pub reached : r + h ≤ length high

-- the numbers start .. end are those with the high bits h
pub record AreSameHigh (high : List Bool) (h start end : ℕ) : Type 0 where
  pub ordered : start ≤ end
  pub before : (k : ℕ) → k < start → high_part high k < h
  pub same : (k : ℕ) → start ≤ k → k < end → high_part high k ≡ h
  pub upto : IsUptoHigh high h end

-- number `at` is the first whose one is at index `place` or after it
pub record IsNextFrom (n w : ℕ) (high low : List Bool) (at place : ℕ) : Type 0 where
  pub packed : IsPacked n w high low
  pub inside : at ≤ n
  pub reached : place ≤ length high
  pub before : ones_before high place ≡ at

-- the first `end` numbers have their ones before index `upto`, and the others from there on
pub record IsUptoNumber (high : List Bool) (end upto : ℕ) : Type 0 where
  pub reached : upto ≤ length high
  pub before : ones_before high upto ≡ end

-- of 2, 3, 9 and 9 one bit is low
abbrev four : List ℕ
four = 2 ∷ 3 ∷ 9 ∷ 9 ∷ []

abbrev four_high : List Bool
four_high = false ∷ true ∷ true ∷ false ∷ false ∷ false ∷ true ∷ true ∷ []

abbrev four_low : List Bool
four_low = false ∷ true ∷ true ∷ true ∷ []

one_low_bit : low_width four ≡ 1
unfolding log2_of
one_low_bit = refl

eight_high_bits : high_len four ≡ length four_high
unfolding log2_of
eight_high_bits = refl

four_packed : numbers_of 4 1 four_high four_low ≡ four
unfolding numbers_of
four_packed = refl
