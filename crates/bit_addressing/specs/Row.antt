-- Rows: the bits of words one after another, and what calls do to them.
use Rattle.std.specs.Prelude.{◌≡◌, ◌≢◌, ℕ, ◌+◌, ◌-◌, ◌*◌, ◌/◌, ◌%◌, ◌<◌, ◌≤◌, Bool, false, not, ◌&&◌, if◌then◌else◌, eqb, leb, ltb, List, ◌++◌, map, take, drop, length, replicate, slice_index_or, slice_range, zero, suc, ◌^◌, bit_or, [], ◌∷◌}
use Rattle.std.specs.List.{range_with_len}
use Rattle.std.specs.Simd.Lanes.{mask_l}
use Rattle.bit_addressing.specs.Bits.{has_bit}

-- bit j of the words in a row, each of w bits
abbrev pub row_bit : (ℕ → ℕ → ℕ) → ℕ → List ℕ → ℕ → Bool
row_bit place w words j = has_bit (slice_index_or words (j / w) 0) (place w (j % w))

-- the bits of the words in a row, in the order of their places
unfoldable pub row_of : (ℕ → ℕ → ℕ) → ℕ → List ℕ → List Bool
row_of place w words = map (row_bit place w words) (range_with_len 0 (w * length words))

-- the number whose bit `place i` is the first of these bits, whose bit `place (i + 1)` is the next, and so on; its other bits are 0
abbrev pub gathered : (ℕ → ℕ) → ℕ → List Bool → ℕ
gathered place i [] = 0
gathered place i (b ∷ bits) = bit_or (if b then 2 ^ place i else 0) (gathered place (suc i) bits)

-- n words, each of the next w bits of a list
abbrev pub packed_words : (ℕ → ℕ) → ℕ → ℕ → List Bool → List ℕ
packed_words place w zero bits = []
packed_words place w (suc n) bits = gathered place 0 (take w bits) ∷ packed_words place w n (drop w bits)

-- the words of w bits whose row is this list, where it is a row
unfoldable pub packed : (ℕ → ℕ → ℕ) → ℕ → List Bool → List ℕ
packed place w bits = packed_words (place w) w (length bits / w) bits

-- the words of w bits for a list: its bits, and 0 after them
abbrev pub list_words : (ℕ → ℕ → ℕ) → ℕ → List Bool → List ℕ
list_words place w bits = packed_words (place w) w ((length bits + (w - 1)) / w) bits

-- each word is a number of w bits
abbrev pub AreWords : ℕ → List ℕ → Type 0
AreWords w words = (k : ℕ) → k < length words → slice_index_or words k 0 < 2 ^ w

-- the least number of words of w bits that have room for b bits
unfoldable pub words_for : ℕ → ℕ → ℕ
words_for w b = (b + (w - 1)) / w

-- xs, with ys written over it from item d on
unfoldable pub put : List Bool → ℕ → List Bool → List Bool
put xs d ys = take d xs ++ (ys ++ drop (d + length ys) xs)

-- a row cut to the words for b bits, or filled up with false to them
unfoldable pub sized : ℕ → List Bool → ℕ → List Bool
sized w xs b = take (w * words_for w b) xs ++ replicate (w * words_for w b - length xs) false

-- a row whose items outside head .. head + len are all b
unfoldable pub filled : List Bool → ℕ → ℕ → Bool → List Bool
filled xs head len b = replicate head b ++ (slice_range xs head (head + len) ++ replicate (length xs - (head + len)) b)

-- where item j comes from, when n items move from s to d
abbrev pub source_of : ℕ → ℕ → ℕ → ℕ → ℕ
source_of s d n j = if leb d j && ltb j (d + n) then (s + j) - d else j

-- the list after n items moved from s to d
unfoldable pub moved : List Bool → ℕ → ℕ → ℕ → List Bool
moved bits s d n = map (λ j. slice_index_or bits (source_of s d n j) false) (range_with_len 0 (length bits))

-- how many words of w bits have one of the n bits from d on
abbrev pub touched : ℕ → ℕ → ℕ → ℕ
touched w d n = if eqb n 0 then 0 else ((d + n - 1) / w + 1) - d / w

-- a run's span in words of w bits: it begins at index `low` of word `first`, and ends before index `end` of word `last`
pub record IsSpan (w from upto first low last end : ℕ) : Type 0 where
  pub begins : first * w + low ≡ from
  pub low_below : low < w
  pub ends : last * w + end ≡ upto
  pub some : 0 < end
  pub end_within : end ≤ w
  pub ordered : first ≤ last
  pub inside : (n : ℕ) → upto ≤ w * n → last < n

-- words that stand for a list: as many as it needs, its bits and then false
pub record IsCanonical (place : ℕ → ℕ → ℕ) (w : ℕ) (words : List ℕ) (bits : List Bool) : Type 0 where
  pub count : length words ≡ words_for w (length bits)
  pub row : row_of place w words ≡ sized w bits (length bits)

-- the number whose bit i is item i of the list, and whose other bits are false
unfoldable pub number_of : List Bool → ℕ
number_of bits = mask_l bits

-- k is the first place at which two lists of one length differ
pub record IsFirstDifference (xs ys : List Bool) (k : ℕ) : Type 0 where
  pub within : k < length xs
  pub before : (i : ℕ) → i < k → slice_index_or xs i false ≡ slice_index_or ys i false
  pub apart : slice_index_or xs k false ≢ slice_index_or ys k false

-- k is the first place of a list with this bit
pub record IsFirst (bit : Bool) (xs : List Bool) (k : ℕ) : Type 0 where
  pub within : k < length xs
  pub here : slice_index_or xs k false ≡ bit
  pub before : (i : ℕ) → i < k → slice_index_or xs i false ≡ not bit

-- a number written in binary by n digits, the most significant first
unfoldable pub binary : ℕ → ℕ → List Bool
binary n x = map (λ i. has_bit x (n - 1 - i)) (range_with_len 0 n)

-- the n lowest bits of a number, that of place 0 first
unfoldable pub number_bits : ℕ → ℕ → List Bool
number_bits x n = map (has_bit x) (range_with_len 0 n)
