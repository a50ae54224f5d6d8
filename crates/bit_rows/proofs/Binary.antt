-- Numbers written in binary, the most significant digit first, out of chunks and into them.
use Rattle.std.proofs.Common.{[], ◌∷◌, zero, suc, cond, ◌≡◌, ℕ, ◌+◌, ◌-◌, ◌*◌, ◌/◌, ◌%◌, ◌^◌, ◌<◌, ◌≤◌, Bool, false, List, ◌++◌, length, get_or, slice_range, refl, sym, ◌∙◌, ap, subst, inl, inr, arith}
use Rattle.std.proofs.lemmas.Bool.{cases_lt}
use Rattle.std.proofs.Math.Nat.{div-lt_iff_lt-mul}
use Rattle.std.proofs.lemmas.Nat.{pow-add}
use Rattle.std.proofs.Math.Pow.{pow_pos}
use Rattle.std.proofs.lemmas.List.{ext_get_or, length-append, get_or_append_left, get_or-append_right}
use Rattle.std.proofs.lemmas.List.FromFn.{length-map-range_with_len, get_or-map-range_with_len}
use Rattle.bit_addressing.specs.Bits.{has_bit}
use Rattle.bit_addressing.specs.Binary.{value, value_after}
use Rattle.bit_addressing.specs.Row.{binary, number_bits, number_of, put}
use Rattle.bit_addressing.proofs.Chunks.{IsRead, has_number}
use Rattle.bit_addressing.proofs.Words.{has_low, has_shr_low}
use Rattle.bit_addressing.proofs.lists.Put.{put_none}
use Rattle.bit_addressing.proofs.lists.Shown.{get_or-run, length-run}

-- n bits of a number have length n
pub length-number_bits : (x n : ℕ) → length (number_bits x n) ≡ n
unfolding number_bits
length-number_bits x n = length-map-range_with_len (has_bit x) 0 n

-- no bits of a number are the empty list
pub number_bits_none : (x : ℕ) → number_bits x 0 ≡ []
unfolding number_bits
number_bits_none x = refl

-- n digits of a number have length n
pub length-binary : (n x : ℕ) → length (binary n x) ≡ n
unfolding binary
length-binary n x = length-map-range_with_len (λ i. has_bit x (n - 1 - i)) 0 n

-- digit i of n is the number's bit n - 1 - i
pub get_or-binary : (n x i : ℕ) → i < n → get_or (binary n x) i false ≡ has_bit x (n - 1 - i)
unfolding binary
get_or-binary n x i h = get_or-map-range_with_len (λ i. has_bit x (n - 1 - i)) 0 n i i false h (omega arith)

-- bit i of the list is the number's bit i
pub get_or-number_bits : (x n i : ℕ) → i < n → get_or (number_bits x n) i false ≡ has_bit x i
unfolding number_bits
get_or-number_bits x n i h = get_or-map-range_with_len (has_bit x) 0 n i i false h (omega arith)

-- the digits of a number are those of its lowest part
pub binary_low : (b x : ℕ) → binary b (x % 2 ^ b) ≡ binary b x
binary_low b x = ext_get_or false (binary b (x % 2 ^ b)) (binary b x) (length-binary b (x % 2 ^ b) ∙ sym (length-binary b x))
    (λ i h.
    let long = length-binary b (x % 2 ^ b) in
    let below : i < b = omega arith in
    get_or-binary b (x % 2 ^ b) i below ∙ has_low x b (b - 1 - i) (omega arith) ∙ sym (get_or-binary b x i below))

-- the first n bits of a number are those of its remainder by 2^n
pub bits_low : (n x : ℕ) → number_bits (x % 2 ^ n) n ≡ number_bits x n
bits_low n x = ext_get_or false (number_bits (x % 2 ^ n) n) (number_bits x n) (length-number_bits (x % 2 ^ n) n ∙ sym (length-number_bits x n))
    (λ i h.
    let long = length-number_bits (x % 2 ^ n) n in
    let below : i < n = omega arith in
    get_or-number_bits (x % 2 ^ n) n i below ∙ has_low x n i below ∙ sym (get_or-number_bits x n i below))

-- the n highest of 64 bits are a number of n digits
pub few_digits : (n x : ℕ) → n ≤ 64 → x < 2 ^ 64 → x / 2 ^ (64 - n) < 2 ^ n
few_digits n x few fits =
    let all : 64 ≡ n + (64 - n) = omega arith in
    let parts : 2 ^ 64 ≡ 2 ^ n * 2 ^ (64 - n) = ap (λ k. 2 ^ k) all ∙ pow-add 2 n (64 - n) in
    (div-lt_iff_lt-mul (pow_pos (64 - n))).1 (subst (λ k. x < k) parts fits)

-- a number turned round within 64 places, of which the lowest are left out
module _ (n x turned : ℕ) (some : 0 < n) (few : n ≤ 64) (round : (p : ℕ) → p < 64 → has_bit turned p ≡ has_bit x (64 - 1 - p)) where
  digit : (j i : ℕ) → i < n → j ≡ n - 1 - i → has_bit (turned / 2 ^ (64 - n)) j ≡ has_bit x i
  digit j i h is =
      let at : 64 - 1 - (j + (64 - n)) ≡ i = omega arith in
      has_shr_low turned (64 - n) j ∙ round (j + (64 - n)) (omega arith) ∙ ap (has_bit x) at

  -- the number whose digits are those of a chunk
  pub binary_of : (ms : List Bool) → length ms ≡ n → x ≡ number_of ms → binary n (turned / 2 ^ (64 - n)) ≡ ms
  binary_of ms size is = ext_get_or false (binary n (turned / 2 ^ (64 - n))) ms (length-binary n (turned / 2 ^ (64 - n)) ∙ sym size)
      (λ i h.
      let left = length-binary n (turned / 2 ^ (64 - n)) in
      let below : i < n = omega arith in
      get_or-binary n (turned / 2 ^ (64 - n)) i below ∙ digit (n - 1 - i) i below refl ∙ ap (λ m. has_bit m i) is ∙ has_number ms i)

  -- the same of a chunk that was read out of a list, and may have more bits than digits
  pub digits_read : (ms : List Bool) (at got : ℕ) → IsRead ms at got x → n ≤ got → at + n ≤ length ms → binary n (turned / 2 ^ (64 - n)) ≡ slice_range ms at (at + n)
  digits_read ms at got read enough fits =
      let left = length-binary n (turned / 2 ^ (64 - n)) in
      let right : length (slice_range ms at (at + n)) ≡ n = length-run ms at n fits in
      ext_get_or false (binary n (turned / 2 ^ (64 - n))) (slice_range ms at (at + n)) (left ∙ sym right) (λ i h.
      let below : i < n = omega arith in
      get_or-binary n (turned / 2 ^ (64 - n)) i below ∙ digit (n - 1 - i) i below refl ∙ read.shown i (omega arith) (omega arith) ∙ sym (get_or-run ms at n i below))

  -- which has no more digits
  pub digits_below : turned < 2 ^ 64 → turned / 2 ^ (64 - n) < 2 ^ n
  digits_below fits = few_digits n turned few fits

  -- the chunk of a number's digits
  pub chunk_of : number_bits (turned / 2 ^ (64 - n)) n ≡ binary n x
  unfolding number_bits
  chunk_of = ext_get_or false (number_bits (turned / 2 ^ (64 - n)) n) (binary n x) (length-map-range_with_len (has_bit (turned / 2 ^ (64 - n))) 0 n ∙ sym (length-binary n x))
      (λ i h.
      let left = length-map-range_with_len (has_bit (turned / 2 ^ (64 - n))) 0 n in
      let below : i < n = omega arith in
      let back : i ≡ n - 1 - (n - 1 - i) = omega arith in
      get_or-map-range_with_len (has_bit (turned / 2 ^ (64 - n))) 0 n i i false below (omega arith) ∙ digit i (n - 1 - i) (omega arith) back ∙ sym (get_or-binary n x i below))

-- the digits of no bits are no bits
pub no_digits_of : (ms : List Bool) (at n : ℕ) → n ≡ 0 → binary n 0 ≡ slice_range ms at (at + n)
unfolding binary
no_digits_of ms at n none = let e : at + n - at ≡ 0 = omega arith in rw (e, none) refl

-- putting no digits changes nothing
pub no_digits : (xs : List Bool) (at n x : ℕ) → n ≡ 0 → xs ≡ put xs at (binary n x)
unfolding binary
no_digits xs at n x none = rw none (sym (put_none xs at))

-- the digits of a number are those of its upper part, and then those of its lower one
pub binary_parted : (n m x : ℕ) → binary (n + m) x ≡ binary n (x / 2 ^ m) ++ binary m (x % 2 ^ m)
binary_parted n m x =
    let a : List Bool = binary n (x / 2 ^ m) in
    let b : List Bool = binary m (x % 2 ^ m) in
    let la : length a ≡ n = length-binary n (x / 2 ^ m) in
    let lb : length b ≡ m = length-binary m (x % 2 ^ m) in
    let lc = length-append a b in
    let lz = length-binary (n + m) x in
    ext_get_or false (binary (n + m) x) (a ++ b) (omega arith)
    (λ i h. elim (cases_lt i n) [
      | inl l ↦
          let back : n + m - 1 - i ≡ (n - 1 - i) + m = omega arith in
          get_or-binary (n + m) x i (omega arith) ∙ ap (has_bit x) back ∙ sym (has_shr_low x m (n - 1 - i)) ∙ sym (get_or-binary n (x / 2 ^ m) i l)
          ∙ sym (get_or_append_left a b false i (omega arith))
      | inr l ↦
          let back : n + m - 1 - i ≡ m - 1 - (i - n) = omega arith in
          get_or-binary (n + m) x i (omega arith) ∙ ap (has_bit x) back ∙ sym (has_low x m (m - 1 - (i - n)) (omega arith)) ∙ sym (get_or-binary m (x % 2 ^ m) (i - n) (omega arith))
          ∙ sym (get_or-append_right a b n i false la (omega arith))
    ])

-- ---- the number that digits write

-- one digit more doubles the value and adds the digit
pub value_one_more : (n : ℕ) (xs : List Bool) (b : Bool) → value_after n (xs ++ b ∷ []) ≡ value_after n xs * 2 + cond b 1 0
value_one_more n [] b = refl
value_one_more n (x ∷ xs) b = value_one_more (n * 2 + cond x 1 0) xs b

-- a number below 2 is its lowest bit
lowest : (y : ℕ) → y < 2 → cond (has_bit y 0) 1 0 ≡ y
lowest zero h = refl
lowest (suc zero) h = refl
lowest (suc (suc y)) h = absurd (omega arith)

no_list : (x : ℕ) → binary 0 x ≡ []
unfolding binary
no_list x = refl

one_digit : (y : ℕ) → binary 1 y ≡ has_bit y 0 ∷ []
unfolding binary
one_digit y = refl

-- a number is that of its digits
pub value_of_binary : (n x : ℕ) → x < 2 ^ n → value (binary n x) ≡ x
value_of_binary zero x h = let e : 2 ^ 0 ≡ 1 = refl in let none : x ≡ 0 = omega arith in ap (λ l. value l) (no_list x) ∙ sym none
value_of_binary (suc n) x h =
    let count : suc n ≡ n + 1 = omega arith in
    let split : 2 ^ (n + 1) ≡ 2 ^ n * 2 ^ 1 = pow-add 2 n 1 in
    let size : x < 2 ^ n * 2 ^ 1 = subst (λ k. x < k) (ap (λ k. 2 ^ k) count ∙ split) h in
    let upper : x / 2 ^ 1 < 2 ^ n = (div-lt_iff_lt-mul (pow_pos 1)).1 size in
    let two : 2 ^ 1 ≡ 2 = refl in
    let low : x % 2 ^ 1 < 2 = omega arith in
    ap (λ k. value (binary k x)) count
    ∙ ap value (binary_parted n 1 x ∙ ap (λ l. binary n (x / 2 ^ 1) ++ l) (one_digit (x % 2 ^ 1)))
    ∙ value_one_more 0 (binary n (x / 2 ^ 1)) (has_bit (x % 2 ^ 1) 0)
    ∙ ap (λ k. k * 2 + cond (has_bit (x % 2 ^ 1) 0) 1 0) (value_of_binary n (x / 2 ^ 1) upper)
    ∙ ap (λ k. x / 2 ^ 1 * 2 + k) (lowest (x % 2 ^ 1) low)
    ∙ (let whole : x / 2 ^ 1 * 2 + x % 2 ^ 1 ≡ x = omega arith in whole)
