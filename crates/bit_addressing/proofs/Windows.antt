-- The bits of two words one after the other.
use Rattle.std.proofs.Common.{◌≡◌, ℕ, ◌+◌, ◌-◌, ◌*◌, ◌/◌, ◌%◌, ◌<◌, ◌≤◌, false, ◌||◌, [], ◌∷◌, get_or, sym, ◌∙◌, ap, inl, inr, arith}
use Rattle.std.proofs.Math.Bool.{or-false}
use Rattle.std.proofs.lemmas.Bool.{cases_lt}
use Rattle.std.proofs.lemmas.Nat.{div-mul-add, mod-mul-add}
use Rattle.bit_addressing.specs.Bits.{has_bit}
use Rattle.bit_addressing.specs.Row.{row_bit}

-- the bits of the first word
pub first_of_two : (place : ℕ → ℕ → ℕ) (w low high j : ℕ) → j < w → row_bit place w (low ∷ high ∷ []) j ≡ has_bit low (place w j)
first_of_two place w low high j h =
    let d : j / w ≡ 0 = ap (λ n. n / w) (omega arith) ∙ div-mul-add 0 w j h in
    let m : j % w ≡ j = ap (λ n. n % w) (omega arith) ∙ mod-mul-add 0 w j h in
    ap (λ q. has_bit (get_or (low ∷ high ∷ []) q 0) (place w (j % w))) d ∙ ap (λ r. has_bit low (place w r)) m

-- the bits of the second
pub second_of_two : (place : ℕ → ℕ → ℕ) (w low high j : ℕ) → w ≤ j → j < w + w → row_bit place w (low ∷ high ∷ []) j ≡ has_bit high (place w (j - w))
second_of_two place w low high j h k =
    let is : j ≡ 1 * w + (j - w) = omega arith in
    let below : j - w < w = omega arith in
    let d : j / w ≡ 1 = ap (λ n. n / w) is ∙ div-mul-add 1 w (j - w) below in
    let m : j % w ≡ j - w = ap (λ n. n % w) is ∙ mod-mul-add 1 w (j - w) below in
    ap (λ q. has_bit (get_or (low ∷ high ∷ []) q 0) (place w (j % w))) d ∙ ap (λ r. has_bit high (place w r)) m

-- the high places of the first word and the low places of the second, counted from the lowest place
pub window_up : (w at back low high down up out i : ℕ) → at < w → back ≡ w - at → i < w
    → ((q : ℕ) → q + at < w → has_bit down q ≡ has_bit low (q + at)) → ((q : ℕ) → w ≤ q + at → has_bit down q ≡ false)
    → ((q : ℕ) → q < back → has_bit up q ≡ false) → ((q : ℕ) → back ≤ q → q < w → has_bit up q ≡ has_bit high (q - back))
    → ((q : ℕ) → q < w → has_bit out q ≡ (has_bit down q || has_bit up q))
    → has_bit out i ≡ row_bit (λ v j. j) w (low ∷ high ∷ []) (at + i)
window_up w at back low high down up out i within is h inside past below above both = both i h ∙ elim (cases_lt (at + i) w) [
  | inl k ↦
      let e : i + at ≡ at + i = omega arith in
      rw (inside i (omega arith), below i (omega arith)) (or-false (has_bit low (i + at)) ∙ ap (has_bit low) e ∙ sym (first_of_two (λ v j. j) w low high (at + i) k))
  | inr k ↦
      let e : i - back ≡ at + i - w = omega arith in
      rw (past i (omega arith), above i (omega arith) h) (ap (has_bit high) e ∙ sym (second_of_two (λ v j. j) w low high (at + i) k (omega arith)))
]

-- counted from the highest place
pub window_down : (w at back low high up down out i : ℕ) → at < w → back ≡ w - at → i < w
    → ((q : ℕ) → q < at → has_bit up q ≡ false) → ((q : ℕ) → at ≤ q → q < w → has_bit up q ≡ has_bit low (q - at))
    → ((q : ℕ) → q + back < w → has_bit down q ≡ has_bit high (q + back)) → ((q : ℕ) → w ≤ q + back → has_bit down q ≡ false)
    → ((q : ℕ) → q < w → has_bit out q ≡ (has_bit up q || has_bit down q))
    → has_bit out (w - 1 - i) ≡ row_bit (λ v j. v - 1 - j) w (low ∷ high ∷ []) (at + i)
window_down w at back low high up down out i within is h below above inside past both = both (w - 1 - i) (omega arith) ∙ elim (cases_lt (at + i) w) [
  | inl k ↦
      let e : w - 1 - i - at ≡ w - 1 - (at + i) = omega arith in
      rw (above (w - 1 - i) (omega arith) (omega arith), past (w - 1 - i) (omega arith)) (or-false (has_bit low (w - 1 - i - at)) ∙ ap (has_bit low) e ∙ sym (first_of_two (λ v j. v - 1 - j) w low high (at + i) k))
  | inr k ↦
      let e : w - 1 - i + back ≡ w - 1 - (at + i - w) = omega arith in
      rw (below (w - 1 - i) (omega arith), inside (w - 1 - i) (omega arith)) (ap (has_bit high) e ∙ sym (second_of_two (λ v j. v - 1 - j) w low high (at + i) k (omega arith)))
]
