-- Bytes that two tables of sixteen reverse, and the words that they are the bytes of.
use Rattle.std.proofs.Common.{◌≡◌, ℕ, zero, suc, ◌+◌, ◌-◌, ◌*◌, ◌/◌, ◌%◌, ◌^◌, ◌<◌, Bool, true, false, not, if◌then◌else◌, eqb, ltb, List, [], ◌∷◌, ◌++◌, length, get_or, replicate, bit_and, bit_or, refl, sym, ◌∙◌, ap, w8, Fits, arith}
use Rattle.std.proofs.lemmas.Bool.{eqb-true, ltb-true}
use Rattle.std.proofs.lemmas.List.{get_or-map, get_or_append_left}
use Rattle.std.proofs.lemmas.Nat.{and_le_r}
use Rattle.std.proofs.lemmas.Simd.{Each1-all, Each1-weaker, Each1-get_or, Each1-from_get_or, Each1-zip2, Each2-splat, below_from_Fits, length-zip2, get_or-zip2, get_or-replicate, swz_l, SwzOk, SwzOk-from_below, length-swz_l, get_or-swz_l_below, get_or_narrower}
use lib.Lanes.{Each1, zip2, pick_l, number_l, digits_l}
use Rattle.bit_addressing.specs.Bits.{has_bit}
use Rattle.bit_addressing.specs.Order.{all_below, below_tells}
use Rattle.bit_addressing.specs.declared.vectors.TheConstants.{FOUR_BITS, HIGHEST_FOUR}
use Rattle.bit_addressing.proofs.Words.{has_low, has_none, has_shr_low}

-- the lanes of a vector of bytes
abbrev pub AreBytes : List ℕ → Type 0
AreBytes v = (length v ≡ 16) × Each1 (Fits w8) v

-- a byte moved down by some places
abbrev pub down : ℕ → ℕ → ℕ
down a b = a / 2 ^ b

-- the places that the two lookups read
abbrev pub low_places : List ℕ → List ℕ
low_places v = zip2 bit_and v (replicate 16 15)

abbrev pub high_places : List ℕ → List ℕ
high_places v = zip2 down v (replicate 16 4)

-- the highest four bits of a byte are a number below 16
below_sixteen : (v : List ℕ) → AreBytes v → Each1 (λ a. a / 16 < 16) v
below_sixteen v fits = Each1-weaker (λ a. a < 256) (λ a. a / 16 < 16) (λ a h. omega arith) v (below_from_Fits w8 v fits.1)

-- each place is one of a table's sixteen
pub low_ok : (v : List ℕ) → AreBytes v → SwzOk w8 16 16 0 (low_places v)
low_ok v fits =
    SwzOk-from_below w8 16 1 16 0 (low_places v) refl (omega (arith, length-zip2 bit_and v (replicate 16 15) fits.0))
    (Each1-zip2 bit_and (λ j. j < 16) v (replicate 16 15) (Each2-splat (λ a b. bit_and a b < 16) v 16 15 (Each1-all (λ a. bit_and a 15 < 16) (λ a. omega (arith, and_le_r a 15)) v)))

-- the lookup of the upper half bytes asks for no index past the table
pub high_ok : (v : List ℕ) → AreBytes v → SwzOk w8 16 16 0 (high_places v)
high_ok v fits =
    SwzOk-from_below w8 16 1 16 0 (high_places v) refl (omega (arith, length-zip2 down v (replicate 16 4) fits.0))
    (Each1-zip2 down (λ j. j < 16) v (replicate 16 4) (Each2-splat (λ a b. down a b < 16) v 16 4 (below_sixteen v fits)))

-- lane i of a lookup is the table's entry at its place
looked_up : (t js : List ℕ) (i j : ℕ) → length js ≡ 16 → i < 16 → get_or js i 0 ≡ j → j < 16 → get_or (swz_l w8 16 t 0 js) i 0 ≡ get_or t j 0
looked_up t js i j long h is below =
    let at : 16 * ((0 + i) / 16) + get_or js i 0 ≡ j = omega arith in
    get_or-swz_l_below w8 16 t 0 js i (omega arith) (omega arith) ∙ ap (λ k. get_or t k 0) at

-- a byte turned by the two tables
abbrev turned : ℕ → ℕ
turned b = bit_or (get_or HIGHEST_FOUR (bit_and b 15) 0) (get_or FOUR_BITS (b / 16) 0)

-- two tests agree
abbrev same : Bool → Bool → Bool
same a b = if a then b else not b

-- two tests that agree are one
same_tells : (a b : Bool) → same a b ≡ true → a ≡ b
same_tells true true h = refl
same_tells true false h = cc
same_tells false true h = cc
same_tells false false h = refl

-- the two tables reverse each byte
tables_turn : (b p : ℕ) → b < 256 → p < 8 → has_bit (turned b) p ≡ has_bit b (7 - p)
tables_turn b p h k =
    let of_byte = below_tells (λ x. all_below (λ q. same (has_bit (turned x) q) (has_bit x (7 - q))) 8) 256 refl b h in
    same_tells (has_bit (turned b) p) (has_bit b (7 - p)) (below_tells (λ q. same (has_bit (turned b) q) (has_bit b (7 - q))) 8 of_byte p k)

-- and make a byte of it
turned_fits : (b : ℕ) → b < 256 → turned b < 256
turned_fits b h = ltb-true (turned b) 256 (below_tells (λ x. ltb (turned x) 256) 256 refl b h)

-- what both lookups together make of a vector
abbrev pub all_turned : List ℕ → List ℕ
all_turned v = zip2 bit_or (swz_l w8 16 HIGHEST_FOUR 0 (low_places v)) (swz_l w8 16 FOUR_BITS 0 (high_places v))

module _ (v : List ℕ) (fits : AreBytes v) where
  -- a lane is a byte
  byte_fits : (i : ℕ) → i < 16 → get_or v i 0 < 256
  byte_fits i h = Each1-get_or (λ x. x < 256) v i 0 (omega (arith, fits.0)) (below_from_Fits w8 v fits.1)

  -- there are sixteen places, and sixteen lanes of what was looked up there
  length-low : length (low_places v) ≡ 16
  length-low = length-zip2 bit_and v (replicate 16 15) fits.0 ∙ fits.0

  length-high : length (high_places v) ≡ 16
  length-high = length-zip2 down v (replicate 16 4) fits.0 ∙ fits.0

  length-turned : length (all_turned v) ≡ 16
  length-turned =
      let first = length-swz_l w8 16 HIGHEST_FOUR 0 (low_places v) ∙ length-low in
      let second = length-swz_l w8 16 FOUR_BITS 0 (high_places v) ∙ length-high in
      length-zip2 bit_or (swz_l w8 16 HIGHEST_FOUR 0 (low_places v)) (swz_l w8 16 FOUR_BITS 0 (high_places v)) (first ∙ sym second) ∙ first

  -- lane i is the vector's lane, turned
  lane_turned : (i : ℕ) → i < 16 → get_or (all_turned v) i 0 ≡ turned (get_or v i 0)
  lane_turned i h =
      let b = get_or v i 0 in
      let few : get_or v i 0 < 256 = byte_fits i h in
      let at_low : get_or (low_places v) i 0 ≡ bit_and b 15 = get_or-zip2 bit_and v (replicate 16 15) i 0 0 0 (omega (arith, fits.0)) h ∙ ap (bit_and b) (get_or-replicate 16 i 15 0 h) in
      let at_high : get_or (high_places v) i 0 ≡ b / 16 = get_or-zip2 down v (replicate 16 4) i 0 0 0 (omega (arith, fits.0)) h ∙ ap (down b) (get_or-replicate 16 i 4 0 h) in
      let first = looked_up HIGHEST_FOUR (low_places v) i (bit_and b 15) length-low h at_low (omega (arith, and_le_r b 15)) in
      let second = looked_up FOUR_BITS (high_places v) i (b / 16) length-high h at_high (omega (arith, few)) in
      get_or-zip2 bit_or (swz_l w8 16 HIGHEST_FOUR 0 (low_places v)) (swz_l w8 16 FOUR_BITS 0 (high_places v)) i 0 0 0
      (omega (arith, length-swz_l w8 16 HIGHEST_FOUR 0 (low_places v), length-low, h)) (omega (arith, length-swz_l w8 16 FOUR_BITS 0 (high_places v), length-high, h))
      ∙ ap (λ x. bit_or x (get_or (swz_l w8 16 FOUR_BITS 0 (high_places v)) i 0)) first ∙ ap (bit_or (get_or HIGHEST_FOUR (bit_and b 15) 0)) second

  -- both lookups together reverse each byte of a vector
  pub bytes_turned : (i p : ℕ) → i < 16 → p < 8 → has_bit (get_or (all_turned v) i 0) p ≡ has_bit (get_or v i 0) (7 - p)
  bytes_turned i p h k = ap (λ x. has_bit x p) (lane_turned i h) ∙ tables_turn (get_or v i 0) p (byte_fits i h) k

  -- and give bytes
  pub bytes_stay : Each1 (λ b. b < 256) (all_turned v)
  bytes_stay = Each1-from_get_or (λ b. b < 256) (all_turned v) 0 (λ i h.
      let near : i < 16 = omega (arith, length-turned, h) in
      omega (arith, lane_turned i near, turned_fits (get_or v i 0) (byte_fits i near)))

-- ---- the bytes of two words, in the other order

-- the places of sixteen lanes from the last to the first
abbrev pub places_back : List ℕ
places_back = 15 ∷ 14 ∷ 13 ∷ 12 ∷ 11 ∷ 10 ∷ 9 ∷ 8 ∷ 7 ∷ 6 ∷ 5 ∷ 4 ∷ 3 ∷ 2 ∷ 1 ∷ 0 ∷ []

-- lane i of the lanes in the other order is the one as far from the end
from_end : (v : List ℕ) (i : ℕ) → length v ≡ 16 → i < 16 → get_or (pick_l 0 (v ++ v) places_back) i 0 ≡ get_or v (15 - i) 0
from_end v i long h =
    let at : get_or places_back i 0 ≡ 15 - i = eqb-true (get_or places_back i 0) (15 - i) (below_tells (λ k. eqb (get_or places_back k 0) (15 - k)) 16 refl i h) in
    get_or-map (λ k. get_or (v ++ v) k 0) places_back i 0 0 h ∙ ap (λ k. get_or (v ++ v) k 0) at ∙ get_or_append_left v v 0 (15 - i) (omega (arith, long))

-- a power of 256 is one of 2
powers : (i : ℕ) → i < 8 → 256 ^ i ≡ 2 ^ (8 * i)
powers i h = eqb-true (256 ^ i) (2 ^ (8 * i)) (below_tells (λ k. eqb (256 ^ k) (2 ^ (8 * k))) 8 refl i h)

-- a bit of byte i of a word
byte_bit : (x i q : ℕ) → i < 8 → q < 8 → has_bit (x / 256 ^ i % 256) q ≡ has_bit x (8 * i + q)
byte_bit x i q h k =
    let at : q + 8 * i ≡ 8 * i + q = omega arith in
    has_low (x / 256 ^ i) 8 q k ∙ ap (λ n. has_bit (x / n) q) (powers i h) ∙ has_shr_low x (8 * i) q ∙ ap (has_bit x) at

-- a bit of the number that bytes are the digits of
number_bit : (xs : List ℕ) → Each1 (λ x. x < 256) xs → (i q : ℕ) → q < 8 → has_bit (number_l 256 xs) (8 * i + q) ≡ has_bit (get_or xs i 0) q
number_bit [] below i q k = has_none (8 * i + q) ∙ sym (has_none q)
number_bit (x ∷ xs) below zero q k =
    let n : ℕ = x + 256 * number_l 256 xs in
    let b = below.0 in
    let least : n % 2 ^ 8 ≡ x = omega (arith, b) in
    let at : 8 * 0 + q ≡ q = omega arith in
    ap (has_bit n) at ∙ sym (has_low n 8 q k) ∙ ap (λ m. has_bit m q) least
number_bit (x ∷ xs) below (suc i) q k =
    let n : ℕ = x + 256 * number_l 256 xs in
    let b = below.0 in
    let rest : n / 2 ^ 8 ≡ number_l 256 xs = omega (arith, b) in
    let at : 8 * suc i + q ≡ 8 * i + q + 8 = omega arith in
    ap (has_bit n) at ∙ sym (has_shr_low n 8 (8 * i + q)) ∙ ap (λ m. has_bit m (8 * i + q)) rest ∙ number_bit xs below.1 i q k

-- the bytes of two words, the least first
abbrev pub bytes_of : ℕ → ℕ → List ℕ
bytes_of first second = digits_l 256 16 (number_l 18446744073709551616 (first ∷ second ∷ []))

module _ (r : List ℕ) (first second : ℕ) (fits : Each1 (λ b. b < 256) r) (small_first : first < 2 ^ 64) (small_second : second < 2 ^ 64) (turns : (i p : ℕ) → i < 16 → p < 8 → has_bit (get_or r i 0) p ≡ has_bit (get_or (pick_l 0 (bytes_of first second ++ bytes_of first second) places_back) i 0) (7 - p)) where
  -- a bit of word j of two, and where it is in the number of all sixteen bytes
  bit_of_word : (j p : ℕ) → j < 2 → p < 64 → has_bit (number_l 256 r) (64 * (1 - j) + p) ≡ has_bit (get_or (first ∷ second ∷ []) j 0) (63 - p)
  bit_of_word j p h k =
      let i : ℕ = 8 * (1 - j) + p / 8 in
      let q : ℕ = p % 8 in
      let at : 64 * (1 - j) + p ≡ 8 * i + q = omega arith in
      let back : 15 - i ≡ 8 * j + (7 - p / 8) = omega arith in
      let to : 8 * (7 - p / 8) + (7 - q) ≡ 63 - p = omega arith in
      ap (has_bit (number_l 256 r)) at
      ∙ number_bit r fits i q (omega arith)
      ∙ turns i q (omega arith) (omega arith)
      ∙ ap (λ x. has_bit x (7 - q)) (from_end (bytes_of first second) i refl (omega arith) ∙ ap (λ m. get_or (bytes_of first second) m 0) back
      ∙ get_or_narrower 18446744073709551616 8 256 16 (first ∷ second ∷ []) j (7 - p / 8) refl (small_first, (small_second, tt)) (omega arith) (omega arith))
      ∙ byte_bit (get_or (first ∷ second ∷ []) j 0) (7 - p / 8) (7 - q) (omega arith) (omega arith)
      ∙ ap (has_bit (get_or (first ∷ second ∷ []) j 0)) to

  -- the first word that the bytes are, and the second
  pub first_turned : (p : ℕ) → p < 64 → has_bit (number_l 256 r % 2 ^ 64) p ≡ has_bit second (63 - p)
  first_turned p h =
      let at : p ≡ 64 * (1 - 1) + p = omega arith in
      has_low (number_l 256 r) 64 p h ∙ ap (has_bit (number_l 256 r)) at ∙ bit_of_word 1 p (omega arith) h

  -- the second word holds the first 64 bits in reverse
  pub second_turned : (p : ℕ) → p < 64 → has_bit (number_l 256 r / 2 ^ 64 % 2 ^ 64) p ≡ has_bit first (63 - p)
  second_turned p h =
      let at : p + 64 ≡ 64 * (1 - 0) + p = omega arith in
      has_low (number_l 256 r / 2 ^ 64) 64 p h ∙ has_shr_low (number_l 256 r) 64 p ∙ ap (has_bit (number_l 256 r)) at ∙ bit_of_word 0 p (omega arith) h
