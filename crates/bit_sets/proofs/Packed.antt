-- Ascending numbers in two lists.
use Rattle.std.proofs.Common.{◌≡◌, ℕ, zero, suc, ◌+◌, ◌-◌, ◌*◌, ◌/◌, ◌%◌, ◌^◌, ◌<◌, ◌≤◌, Bool, true, false, cond, leb, List, [], ◌∷◌, ◌++◌, length, get_or, count_by, slice_get, Some, None, refl, sym, ◌∙◌, ap, subst, inl, inr, ◌⊎◌, arith}
use Rattle.std.specs.List.{All, range_with_len}
use Rattle.std.proofs.lemmas.Bool.{cases_lt, le-leb, lt-leb}
use Rattle.std.proofs.lemmas.List.{ext_get_or}
use Rattle.std.proofs.lemmas.List.FromFn.{length-map-range_with_len, get_or-map-range_with_len, map-range_with_len_more}
use Rattle.std.proofs.lemmas.List.Sums.{sum_by-cons}
use Rattle.std.proofs.lemmas.Nat.{div-add-mod', leading_top, pow-add}
use Rattle.std.proofs.lemmas.Option.{slice_get-get_or, slice_get_past, slice_get_within, get_or_from_slice_get}
use Rattle.std.proofs.Math.Nat.{mul-le-mul_left, mul-le-mul_right, div-lt_iff_lt-mul, div-le_of_le-mul, lt-div-mul-add, mod-eq_of_lt, div-eq_of_lt, div-le_self, mul-div-le, le_of_mul-le-mul_left, pow-suc}
use Rattle.std.proofs.Math.Pow.{pow_mono, pow_pos}
use Rattle.bit_slice.specs.Places.{ones_of}
use Rattle.bit_sets.specs.Sorted.{number_at, high_part, low_part, numbers_of, high_len, high_places, log2_of, last_of, low_width, IsPacked}

-- ---- the numbers

-- a packed form of n numbers holds n
pub length_numbers : (n w : ℕ) (high low : List Bool) → length (numbers_of n w high low) ≡ n
unfolding numbers_of
length_numbers n w high low = length-map-range_with_len (number_at w high low) 0 n

-- number k is the one that its high and low part make
pub number_is : (n w : ℕ) (high low : List Bool) (k d : ℕ) → k < n → get_or (numbers_of n w high low) k d ≡ number_at w high low k
unfolding numbers_of
number_is n w high low k d h = get_or-map-range_with_len (number_at w high low) 0 n k k d h (omega arith)

-- an index below n has its number
pub number_there : (n w : ℕ) (high low : List Bool) (k : ℕ) → k < n → slice_get (numbers_of n w high low) k ≡ Some (number_at w high low k)
number_there n w high low k h =
    slice_get-get_or (numbers_of n w high low) k 0 (omega (arith, length_numbers n w high low)) ∙ ap Some (number_is n w high low k 0 h)

-- an index from n on has none
pub number_absent : (n w : ℕ) (high low : List Bool) (k : ℕ) → n ≤ k → slice_get (numbers_of n w high low) k ≡ None
number_absent n w high low k h = slice_get_past (numbers_of n w high low) k (omega (arith, length_numbers n w high low))

-- ---- the two lists of a list

-- n numbers have n places
pub length_places : (w : ℕ) (xs : List ℕ) (n : ℕ) → length (high_places w xs n) ≡ n
unfolding high_places
length_places w xs n = length-map-range_with_len (λ k. get_or xs k 0 / 2 ^ w + k) 0 n

-- the place of number k is its high part plus k
pub place_is : (w : ℕ) (xs : List ℕ) (n k d : ℕ) → k < n → get_or (high_places w xs n) k d ≡ get_or xs k 0 / 2 ^ w + k
unfolding high_places
place_is w xs n k d h = get_or-map-range_with_len (λ j. get_or xs j 0 / 2 ^ w + j) 0 n k k d h (omega arith)

-- one number more has one place more
pub places_more : (w : ℕ) (xs : List ℕ) (n : ℕ) → high_places w xs (n + 1) ≡ high_places w xs n ++ (get_or xs n 0 / 2 ^ w + n) ∷ []
unfolding high_places
places_more w xs n = map-range_with_len_more (λ k. get_or xs k 0 / 2 ^ w + k) 0 n n (omega arith)

-- no numbers have no places
pub no_places : (w : ℕ) (xs : List ℕ) → high_places w xs 0 ≡ []
unfolding high_places
no_places w xs = refl

-- the numbers of the two lists that were made of a list
pub packed_is : (n w : ℕ) (high low : List Bool) (xs : List ℕ) → length xs ≡ n → ones_of high ≡ high_places w xs n → ((k : ℕ) → k < n → low_part w low k ≡ get_or xs k 0 % 2 ^ w) → numbers_of n w high low ≡ xs
packed_is n w high low xs size ones lows =
    ext_get_or 0 (numbers_of n w high low) xs (length_numbers n w high low ∙ sym size)
    (λ k h.
    let below : k < n = omega (arith, length_numbers n w high low) in
    let x = get_or xs k 0 in
    let at : get_or (ones_of high) k 0 ≡ x / 2 ^ w + k = ap (λ l. get_or l k 0) ones ∙ place_is w xs n k 0 below in
    let part : high_part high k ≡ x / 2 ^ w = omega arith in
    number_is n w high low k 0 below ∙ ap (λ p. p * 2 ^ w + low_part w low k) part ∙ ap (λ p. x / 2 ^ w * 2 ^ w + p) (lows k below) ∙ div-add-mod' x (2 ^ w))

-- ---- the logarithm

-- as many numbers pass a test as the first of them
first_pass : (p : ℕ → Bool) (lo n m : ℕ) → m ≤ n → ((j : ℕ) → lo ≤ j → j < lo + m → p j ≡ true) → ((j : ℕ) → lo + m ≤ j → j < lo + n → p j ≡ false) → count_by p (range_with_len lo n) ≡ m
first_pass p lo zero m h passes fails = omega arith
first_pass p lo (suc n) zero h passes fails =
    let here : ◌≡◌ {A = ℕ} (cond (p lo) 1 0) 0 = ap (λ b. cond b 1 0) (fails lo (omega arith) (omega arith)) in
    omega (arith, sum_by-cons (λ j. cond (p j) 1 0) lo (range_with_len (lo + 1) n), here, first_pass p (lo + 1) n zero (omega arith) (λ j a b. absurd (omega arith)) (λ j a b. fails j (omega arith) (omega arith)))
first_pass p lo (suc n) (suc m) h passes fails =
    let here : ◌≡◌ {A = ℕ} (cond (p lo) 1 0) 1 = ap (λ b. cond b 1 0) (passes lo (omega arith) (omega arith)) in
    omega (arith, sum_by-cons (λ j. cond (p j) 1 0) lo (range_with_len (lo + 1) n), here, first_pass p (lo + 1) n m (omega arith) (λ j a b. passes j (omega arith) (omega arith)) (λ j a b. fails j (omega arith) (omega arith)))

-- a number from 2^w up to twice that has the logarithm w
pub log2_is : (n w : ℕ) → w < 64 → 2 ^ w ≤ n → n < 2 * 2 ^ w → log2_of n ≡ w
unfolding log2_of
log2_is n w few low high =
    let twice : 2 ^ (w + 1) ≡ 2 * 2 ^ w = twice_pow w in
    first_pass (λ j. leb (2 ^ (j + 1)) n) 0 63 w (omega arith)
    (λ j a b. le-leb (2 ^ (j + 1)) n (let m : 2 ^ (j + 1) ≤ 2 ^ w = pow_mono (omega arith) in omega arith))
    (λ j a b. lt-leb (2 ^ (j + 1)) n (let m : 2 ^ (w + 1) ≤ 2 ^ (j + 1) = pow_mono (omega arith) in omega arith))
  where
    twice_pow : (k : ℕ) → 2 ^ (k + 1) ≡ 2 * 2 ^ k
    twice_pow k = omega (arith, pow-add 2 k 1, ap (λ n. 2 ^ k * n) one)
      where
        one : 2 ^ 1 ≡ 2
        one = refl

-- the logarithm of 0 and 1 is 0
pub log2_small : (n : ℕ) → n < 2 → log2_of n ≡ 0
unfolding log2_of
log2_small n h = first_pass (λ j. leb (2 ^ (j + 1)) n) 0 63 0 (omega arith) (λ j a b. absurd (omega arith)) (λ j a b. lt-leb (2 ^ (j + 1)) n (let m = pow_mono {i = 1} {j = j + 1} (omega arith) in let e : 2 ^ 1 ≡ 2 = refl in omega arith))

-- ---- what is packed

-- the low part of number k lies inside the low bits
pub low_inside : (k n w : ℕ) → k < n → k * w + w ≤ n * w
low_inside k n w h = let m : (k + 1) * w ≤ n * w = mul-le-mul_right w (omega arith) in let e : (k + 1) * w ≡ k * w + w = omega arith in omega arith

-- a number made of its parts is below 2^64
pub number_fits : (n w : ℕ) (high low : List Bool) (k : ℕ) → IsPacked n w high low → k < n → number_at w high low k < 2 ^ 64
number_fits n w high low k packed h = omega (arith, number_is n w high low k 0 h, packed.fits k 0 (omega (arith, length_numbers n w high low)))

-- the one of a number, by its index
pub one_at : (xs : List Bool) (k place : ℕ) → Some place ≡ slice_get (ones_of xs) k → (k < length (ones_of xs)) × (place - k ≡ high_part xs k)
one_at xs k place is = (slice_get_within (ones_of xs) k place (sym is), let e = get_or_from_slice_get (ones_of xs) k place 0 (sym is) in omega arith)

-- the high bits shifted, where they were found
pub shifted : (n w : ℕ) (high low : List Bool) (k place : ℕ) → IsPacked n w high low → Some place ≡ slice_get (ones_of high) k → (k < n) × ((place - k) * 2 ^ w % 2 ^ 64 ≡ high_part high k * 2 ^ w)
shifted n w high low k place packed is =
    let at = one_at high k place is in
    let size = packed.ones in
    let below : k < n = let l = at.0 in omega arith in
    (below, ap (λ p. p * 2 ^ w % 2 ^ 64) at.1 ∙ mod-eq_of_lt (omega (arith, number_fits n w high low k packed below)))

-- an index without an item is at or past the end
pub ends_there : (xs : List ℕ) (k : ℕ) → None ≡ slice_get xs k → length xs ≤ k
ends_there xs k none = elim (cases_lt k (length xs)) [
  | inl l ↦ absurd (let e = slice_get-get_or xs k 0 l in let f : None ≡ Some (get_or xs k 0) = none ∙ e in (cc))
  | inr l ↦ l
]

-- ---- the size

module _ (n w last : ℕ) (some : 0 < n) (fits : last < 2 ^ 64) (is : w ≡ log2_of (last / n)) where
  -- the mean gap lies between two powers
  pub width_bounds : (last / n < 2 * 2 ^ w) × ((w ≡ 0) ⊎ (2 ^ w ≤ last / n))
  width_bounds = elim (cases_lt (last / n) 2) [
    | inl l ↦ let none = is ∙ log2_small (last / n) l in let e = ap (λ k. 2 ^ k) none in let one : 2 ^ 0 ≡ 1 = refl in (omega arith, inl none)
    | inr l ↦
        let (j, few, low, high) = leading_top 64 (last / n) (omega arith) (let m = div-le_self last n in omega arith) in
        let twice = pow-suc 2 j in
        let same : w ≡ j = is ∙ log2_is (last / n) j (omega arith) low (omega arith) in
        let e = ap (λ k. 2 ^ k) same in
        (omega arith, inr (omega arith))
  ]

  -- the last high part is less than twice the count
  few_steps : last / 2 ^ w < 2 * n
  few_steps =
      let gap = lt-div-mul-add {a = last} {b = n} some in
      let more : (last / n + 1) * n ≤ 2 * 2 ^ w * n = mul-le-mul_right n (let b = width_bounds.0 in omega arith) in
      let step : (last / n + 1) * n ≡ last / n * n + n = omega arith in
      let turn : 2 * 2 ^ w * n ≡ 2 * n * 2 ^ w = turned (2 ^ w) n in
      (div-lt_iff_lt-mul (pow_pos w)).1 (omega arith)
    where
      turned : (p m : ℕ) → 2 * p * m ≡ 2 * m * p
      turned p m = omega arith

  bound_some : (v : ℕ) → last ≤ n * 2 ^ v → n * (w + 1) + last / 2 ^ w ≤ (v + 2) * n
  bound_some v most =
      let steps = few_steps in
      let size : n * (w + 1) ≡ n * w + n = omega arith in
      let room : (v + 2) * n ≡ n * v + 2 * n = turned v n in
      elim (cases_lt w v) [
        | inl l ↦
            let more : n * (w + 1) ≤ n * v = mul-le-mul_left n (omega arith) in
            omega arith
        | inr l ↦
            let same : w ≡ v = not_above v most l width_bounds.1 in
            let e = ap (λ k. n * 2 ^ k) same in
            let few : last / 2 ^ w ≤ n = div-le_of_le-mul (2 ^ w) (let t : 2 ^ w * n ≡ n * 2 ^ w = turn (2 ^ w) n in omega arith) in
            let f = ap (λ k. n * k) same in
            omega arith
      ]
    where
      turn : (p m : ℕ) → p * m ≡ m * p
      turn p m = omega arith

      turned : (u m : ℕ) → (u + 2) * m ≡ m * u + 2 * m
      turned u m = omega arith

      not_above : (u : ℕ) → last ≤ n * 2 ^ u → u ≤ w → (w ≡ 0) ⊎ (2 ^ w ≤ last / n) → w ≡ u
      not_above u h l (inl none) = omega arith
      not_above u h l (inr low) =
          let a : n * 2 ^ w ≤ n * (last / n) = mul-le-mul_left n low in
          let b = mul-div-le last n in
          let c : 2 ^ w ≤ 2 ^ u = le_of_mul-le-mul_left {k = n} (omega arith) some in
          let d = le_of_pow_le w u c in
          omega arith
        where
          le_of_pow_le : (i j : ℕ) → 2 ^ i ≤ 2 ^ j → i ≤ j
          le_of_pow_le i j g = elim (cases_lt j i) [
            | inl m ↦ absurd (let p = pow_mono {i = j + 1} {j = i} (omega arith) in let q = pow-suc 2 j in let r = pow_pos j in let t : 2 ^ (j + 1) ≡ 2 ^ suc j = ap (λ k. 2 ^ k) (let y : j + 1 ≡ suc j = omega arith in y) in omega arith)
            | inr m ↦ m
          ]

-- the numbers take at most two bits each and the logarithm of their mean gap
pub size_bound : (n w last v : ℕ) → last < 2 ^ 64 → w ≡ log2_of (last / n) → last ≤ n * 2 ^ v → n * (w + 1) + last / 2 ^ w ≤ (v + 2) * n
size_bound zero w last v fits is most =
    let none : last ≡ 0 = omega arith in
    let e : last / 2 ^ w ≡ 0 = ap (λ k. k / 2 ^ w) none ∙ div-eq_of_lt (pow_pos w) in
    omega arith
size_bound (suc n) w last v fits is most = bound_some (suc n) w last (omega arith) fits is v most

-- a bound of all numbers is one of the last
last_within : (xs : List ℕ) (P : ℕ → Type 0) → P 0 → All P xs → P (last_of xs)
last_within [] P none all = none
last_within (x ∷ xs) P none all = all (length (x ∷ xs) - 1) 0 (omega arith)

module _ (n w : ℕ) (high low : List Bool) (packed : IsPacked n w high low) (xs : List ℕ) (view : numbers_of n w high low ≡ xs) where
  -- the bits that a packed form takes, from the count and the largest number
  pub size_is : length high + length low ≡ length xs * (low_width xs + 1) + last_of xs / 2 ^ low_width xs
  size_is =
      let count : n ≡ length xs = sym (length_numbers n w high low) ∙ ap length view in
      let width : w ≡ low_width xs = packed.width ∙ ap low_width view in
      let highs : length high ≡ high_len xs = packed.size ∙ ap high_len view in
      let lows : length low ≡ length xs * low_width xs = packed.lows ∙ ap (λ m. m * w) count ∙ ap (λ m. length xs * m) width in
      let more : length xs * (low_width xs + 1) ≡ length xs * low_width xs + length xs = omega arith in
      omega arith

  -- numbers up to count * 2^v take at most v + 2 bits each
  pub size_within : (v : ℕ) → All (λ number. number ≤ length xs * 2 ^ v) xs → length high + length low ≤ (v + 2) * length xs
  size_within v all =
      let fits : last_of xs < 2 ^ 64 = last_within xs (λ x. x < 2 ^ 64) (omega arith) (subst (All (λ x. x < 2 ^ 64)) view packed.fits) in
      let most : last_of xs ≤ length xs * 2 ^ v = last_within xs (λ x. x ≤ length xs * 2 ^ v) (omega arith) all in
      omega (arith, size_is, size_bound (length xs) (low_width xs) (last_of xs) v fits refl most)
