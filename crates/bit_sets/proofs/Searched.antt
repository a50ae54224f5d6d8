-- The first of packed numbers that is large enough.
use Rattle.std.proofs.Common.{◌≡◌, ℕ, suc, ◌+◌, ◌-◌, ◌*◌, ◌/◌, ◌%◌, ◌^◌, ◌<◌, ◌≤◌, Bool, true, false, cond, List, [], ◌∷◌, length, take, get_or, slice_range, refl, sym, ◌∙◌, ap, subst, inl, inr, arith}
use Rattle.std.specs.List.{All}
use Rattle.std.proofs.lemmas.Bool.{cases_lt}
use Rattle.std.proofs.lemmas.List.{get_or_default, get_or-take, length-take}
use Rattle.std.proofs.lemmas.Nat.{div-add-mod', mod_below, pow_pos}
use Rattle.std.proofs.Math.Nat.{div-mul-le_self, mod-eq-sub-div-mul, mod-eq_of_lt, mul-le-mul_right}
use Rattle.std.proofs.Math.Nat.{pow-suc}
use Rattle.bit_addressing.specs.Binary.{value_after}
use Rattle.bit_addressing.proofs.lists.Shown.{length-run}
use Rattle.bit_sets.specs.Sorted.{AreSameHigh, IsNextFrom, high_part, low_part, numbers_of, IsPacked}
use Rattle.bit_sets.proofs.Places.{next_stands}
use Rattle.bit_sets.proofs.Packed.{length_numbers, number_is, low_inside}

below_after : (n : ℕ) (xs : List Bool) → value_after n xs < (n + 1) * 2 ^ length xs
below_after n [] = let e : 2 ^ 0 ≡ 1 = refl in omega (arith, ap (λ k. (n + 1) * k) e)
below_after n (b ∷ xs) =
    let digit : cond b 1 0 ≤ 1 = digit_of b in
    let m = n * 2 + cond b 1 0 in
    let rest = below_after m xs in
    let more : (m + 1) * 2 ^ length xs ≤ ((n + 1) * 2) * 2 ^ length xs = mul-le-mul_right (2 ^ length xs) (omega arith) in
    let two : 2 ^ suc (length xs) ≡ 2 ^ length xs * 2 = pow-suc 2 (length xs) in
    let turn : ((n + 1) * 2) * 2 ^ length xs ≡ (n + 1) * (2 ^ length xs * 2) = turned (n + 1) (2 ^ length xs) in
    let whole : (n + 1) * 2 ^ suc (length xs) ≡ (n + 1) * (2 ^ length xs * 2) = ap (λ k. (n + 1) * k) two in
    omega arith
  where
    digit_of : (c : Bool) → cond c 1 0 ≤ 1
    digit_of true = omega arith
    digit_of false = omega arith

    turned : (a p : ℕ) → (a * 2) * p ≡ a * (p * 2)
    turned a p = omega arith

-- the digits of a number are below their power
low_below : (w : ℕ) (low : List Bool) (k : ℕ) → k * w + w ≤ length low → low_part w low k < 2 ^ w
low_below w low k h =
    let size : length (slice_range low (k * w) (k * w + w)) ≡ w = length-run low (k * w) w h in
    let all = below_after 0 (slice_range low (k * w) (k * w + w)) in
    let power = ap (λ n. 2 ^ n) size in
    omega arith

-- all items before k are below x, and the item at k is not
pub record IsBound (xs : List ℕ) (x k : ℕ) : Type 0 where
  pub below : (j : ℕ) → j < k → j < length xs → get_or xs j 0 < x
  pub above : k < length xs → x ≤ get_or xs k 0

module _ (n w : ℕ) (high low : List Bool) (packed : IsPacked n w high low) (x start end : ℕ) (same_high : AreSameHigh high (x / 2 ^ w) start end) where
  within : end ≤ n
  within = let a = same_high.upto.within in let b = packed.ones in omega arith

  before : (k : ℕ) → k < start → high_part high k < x / 2 ^ w
  before = same_high.before

  same : (k : ℕ) → start ≤ k → k < end → high_part high k ≡ x / 2 ^ w
  same = same_high.same

  after : (k : ℕ) → end ≤ k → k < n → x / 2 ^ w < high_part high k
  after k a b = let c = packed.ones in same_high.upto.after k a (omega arith)

  fits_low : (k : ℕ) → k < n → low_part w low k < 2 ^ w
  fits_low k h = let all = packed.lows in low_below w low k (omega (arith, low_inside k n w h))

  -- the low bits of numbers with the same high bits ascend
  pub lows_ascend : (i j : ℕ) → start ≤ i → i ≤ j → j < end → low_part w low i ≤ low_part w low j
  lows_ascend i j a b h =
      let up = packed.ascends i j 0 b (omega (arith, length_numbers n w high low)) in
      let hi = ap (λ p. p * 2 ^ w) (same i a (omega arith)) in
      let hj = ap (λ p. p * 2 ^ w) (same j (omega arith) h) in
      omega (arith, number_is n w high low i 0 (omega arith), number_is n w high low j 0 (omega arith))

  -- the index at which the low bits reach those of x
  found_at : (k : ℕ) → start ≤ k → k ≤ end → ((j : ℕ) → start ≤ j → j < k → low_part w low j < x % 2 ^ w) → ((j : ℕ) → k ≤ j → j < end → x % 2 ^ w ≤ low_part w low j) → IsBound (numbers_of n w high low) x k
  found_at k a b less more =
      let size = length_numbers n w high low in
      let whole = div-add-mod' x (2 ^ w) in
      let rest = mod_below x (2 ^ w) (pow_pos w) in
      record {
        below = λ j h inside.
            let is = number_is n w high low j 0 (omega arith) in
            elim (cases_lt j start) [
              | inl l ↦
                  let part : (high_part high j + 1) * 2 ^ w ≤ x / 2 ^ w * 2 ^ w = mul-le-mul_right (2 ^ w) (let p = before j l in omega arith) in
                  let step : (high_part high j + 1) * 2 ^ w ≡ high_part high j * 2 ^ w + 2 ^ w = omega arith in
                  omega (arith, fits_low j (omega arith))
              | inr l ↦ let part = ap (λ p. p * 2 ^ w) (same j l (omega arith)) in omega (arith, less j l h)
            ];
        above = λ inside.
            let is = number_is n w high low k 0 (omega arith) in
            elim (cases_lt k end) [
              | inl l ↦ let part = ap (λ p. p * 2 ^ w) (same k a l) in omega (arith, more k (omega arith) l)
              | inr l ↦
                  let part : (x / 2 ^ w + 1) * 2 ^ w ≤ high_part high k * 2 ^ w = mul-le-mul_right (2 ^ w) (let p = after k l (omega arith) in omega arith) in
                  let step : (x / 2 ^ w + 1) * 2 ^ w ≡ x / 2 ^ w * 2 ^ w + 2 ^ w = omega arith in
                  omega arith
            ];
      }

  -- an index between lower and higher low parts is the bound of x
  pub bound_found : (xs : List ℕ) (rest k : ℕ) → numbers_of n w high low ≡ xs → rest ≡ x % 2 ^ w → start ≤ k → k ≤ end → ((j : ℕ) → start ≤ j → j < k → low_part w low j < rest) → ((j : ℕ) → k ≤ j → j < end → rest ≤ low_part w low j) → IsBound xs x k
  bound_found xs rest k view is a b less more = subst (λ l. IsBound l x k) view (found_at k a b (λ j c d. omega (arith, is, less j c d)) (λ j c d. omega (arith, is, more j c d)))

  -- from there on the number at that index is found
  pub next_from : (k : ℕ) → start ≤ k → k ≤ end → IsNextFrom n w high low k (k + x / 2 ^ w)
  next_from k a b =
      let stands = next_stands high (x / 2 ^ w) start end k same_high a b in
      record { packed = packed; inside = let c = within in omega arith; reached = stands.1; before = stands.0 }

-- the low bits of a number
pub rest_of : (x w : ℕ) → x < 2 ^ 64 → x - x / 2 ^ w * 2 ^ w % 2 ^ 64 ≡ x % 2 ^ w
rest_of x w h =
    let most = div-mul-le_self x (2 ^ w) in
    let fits : x / 2 ^ w * 2 ^ w % 2 ^ 64 ≡ x / 2 ^ w * 2 ^ w = mod-eq_of_lt (omega arith) in
    ap (λ p. x - p) fits ∙ sym (mod-eq-sub-div-mul x (2 ^ w))

-- where all high bits are below those of x, all numbers are below x
pub all_lower : (n w : ℕ) (high low : List Bool) (xs : List ℕ) (x : ℕ) → IsPacked n w high low → numbers_of n w high low ≡ xs → ((k : ℕ) → k < n → high_part high k < x / 2 ^ w) → All (λ number. number < x) xs
all_lower n w high low xs x packed view lower = subst (All (λ number. number < x)) view (λ k d h.
    let size = length_numbers n w high low in
    let below : k < n = omega arith in
    let all = packed.lows in
    let part : (high_part high k + 1) * 2 ^ w ≤ x / 2 ^ w * 2 ^ w = mul-le-mul_right (2 ^ w) (let p = lower k below in omega arith) in
    let step : (high_part high k + 1) * 2 ^ w ≡ high_part high k * 2 ^ w + 2 ^ w = omega arith in
    let whole = div-mul-le_self x (2 ^ w) in
    omega (arith, number_is n w high low k d below, low_below w low k (omega (arith, low_inside k n w below))))

-- ---- what a search gave

-- the numbers before a bound are below x
pub all_below : (xs : List ℕ) (x k : ℕ) → IsBound xs x k → All (λ number. number < x) (take k xs)
all_below xs x k bound = λ j d h.
    let size = length-take k xs in
    let below : j < k = omega arith in
    let inside : j < length xs = omega arith in
    omega (arith, get_or-take k xs j d below, get_or_default xs j d 0 inside, bound.below j below inside)

-- a bound at the end shows that all numbers are below x
pub none_reaches : (xs : List ℕ) (x k : ℕ) → IsBound xs x k → length xs ≤ k → All (λ number. number < x) xs
none_reaches xs x k bound past = λ j d h. omega (arith, get_or_default xs j d 0 h, bound.below j (omega arith) h)

-- a bound before the end shows a number that is not below x
pub one_reaches : (xs : List ℕ) (x k : ℕ) → IsBound xs x k → k < length xs → All (λ number. number < x) xs → ⊥
one_reaches xs x k bound inside all = omega (arith, all k 0 inside, bound.above inside)
