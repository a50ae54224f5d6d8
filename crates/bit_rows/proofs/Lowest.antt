-- The lowest bit of a number that is set: its place, and the number with it cleared.
use Rattle.std.proofs.Common.{◌≡◌, ◌≢◌, ℕ, zero, suc, ◌-◌, ◌/◌, ◌^◌, ◌<◌, true, false, ◌&&◌, eqb, inl, inr, sym, ◌∙◌, ap, arith, bit_and}
use Rattle.std.specs.Int.{bit_at, Width, trailing_zeros}
use Rattle.std.proofs.Math.Bool.{and-false, and_self}
use Rattle.std.proofs.lemmas.Bool.{cases_lt}
use Rattle.std.proofs.lemmas.Nat.Bits.{bit_at-suc, bit_at_lowest, bit_at-trailing_zeros}
use mir.Val.{bits}
use Rattle.bit_addressing.specs.Bits.{has_bit}
use Rattle.bit_addressing.proofs.Words.{has_and, has_none}

bit_before_here : (n z : ℕ) → bit_at n z ≡ 1 → ((i : ℕ) → i < z → bit_at n i ≡ 0) → bit_at (n - 1) z ≡ 0
bit_before_here n zero set below = omega (arith, bit_at_lowest n, bit_at_lowest (n - 1))
bit_before_here n (suc z) set below =
    let even = below 0 (omega arith) in
    let half : (n - 1) / 2 ≡ n / 2 - 1 = omega (arith, even, bit_at_lowest n) in
    bit_at-suc (n - 1) z ∙ ap (λ m. bit_at m z) half
    ∙ bit_before_here (n / 2) z (sym (bit_at-suc n z) ∙ set) (λ i l. sym (bit_at-suc n i) ∙ below (suc i) (omega arith))

bit_before_above : (n z p : ℕ) → bit_at n z ≡ 1 → ((i : ℕ) → i < z → bit_at n i ≡ 0) → z < p → bit_at (n - 1) p ≡ bit_at n p
bit_before_above n z zero set below h = absurd (omega arith)
bit_before_above n zero (suc p) set below h =
    let half : (n - 1) / 2 ≡ n / 2 = omega (arith, set, bit_at_lowest n) in
    bit_at-suc (n - 1) p ∙ ap (λ m. bit_at m p) half ∙ sym (bit_at-suc n p)
bit_before_above n (suc z) (suc p) set below h =
    let even = below 0 (omega arith) in
    let half : (n - 1) / 2 ≡ n / 2 - 1 = omega (arith, even, bit_at_lowest n) in
    bit_at-suc (n - 1) p ∙ ap (λ m. bit_at m p) half
    ∙ bit_before_above (n / 2) z p (sym (bit_at-suc n z) ∙ set) (λ i l. sym (bit_at-suc n i) ∙ below (suc i) (omega arith)) (omega arith)
    ∙ sym (bit_at-suc n p)

module _ (w : Width) (n : ℕ) (fits : n < 2 ^ bits w) where
  -- no bit below the lowest is set
  pub has_below_lowest : (p : ℕ) → p < trailing_zeros w n → has_bit n p ≡ false
  has_below_lowest p h = elim (cases_lt 0 n) [
    | inl some ↦ ap (λ m. eqb m 1) ((bit_at-trailing_zeros w n some fits).2 p h)
    | inr none ↦ let z : n ≡ 0 = omega arith in ap (λ m. has_bit m p) z ∙ has_none p
  ]

  -- a number that is not 0 has its lowest bit
  pub has_lowest : n ≢ 0 → has_bit n (trailing_zeros w n) ≡ true
  has_lowest some = ap (λ m. eqb m 1) (bit_at-trailing_zeros w n (omega arith) fits).1

  -- `n & (n - 1)` has all bits but the lowest
  module _ (some : n ≢ 0) where
    -- `n & (n - 1)` lacks the lowest bit
    pub cleared_lowest : has_bit (bit_and n (n - 1)) (trailing_zeros w n) ≡ false
    cleared_lowest =
        let z : ℕ = trailing_zeros w n in
        let t = bit_at-trailing_zeros w n (omega arith) fits in
        has_and n (n - 1) z ∙ ap (λ m. has_bit n z && eqb m 1) (bit_before_here n z t.1 t.2) ∙ and-false (has_bit n z)

    -- `n & (n - 1)` keeps the other bits
    pub cleared_other : (p : ℕ) → p ≢ trailing_zeros w n → has_bit (bit_and n (n - 1)) p ≡ has_bit n p
    cleared_other p apart =
        let z : ℕ = trailing_zeros w n in
        let t = bit_at-trailing_zeros w n (omega arith) fits in
        has_and n (n - 1) p ∙ elim (cases_lt p z) [
          | inl l ↦ let none = has_below_lowest p l in ap (λ b. b && has_bit (n - 1) p) none ∙ sym none
          | inr l ↦ ap (λ m. has_bit n p && eqb m 1) (bit_before_above n z p t.1 t.2 (omega (arith, apart))) ∙ and_self (has_bit n p)
        ]
