-- Numbers and their digits: in reverse, and in two's complement.
use Rattle.std.proofs.Common.{◌≡◌, ℕ, zero, suc, false, ◌+◌, ◌-◌, ◌*◌, ◌/◌, ◌%◌, ◌^◌, ◌<◌, ◌≤◌, eqb, refl, sym, ◌∙◌, ap, subst, inl, inr, arith}
use Rattle.std.specs.Prelude.{ℤ, pos, negsuc, ◌-ℤ◌}
use Rattle.std.specs.Int.{w64, cast_unsigned}
use Rattle.std.proofs.Math.Pow.{pow_pos, pow_mono}
use Rattle.std.proofs.Math.Nat.{div-eq_of_lt, mod-eq_of_lt, le-div_iff_mul-le}
use Rattle.std.proofs.lemmas.Bool.{cases_lt, lt-ltb, le-ltb}
use Rattle.std.proofs.lemmas.List.{ext_get_or, get_or_past}
use Rattle.std.proofs.lemmas.Nat.{div-mul-add, mod-mul-add, mod_below, pow-add}
use Rattle.bit_addressing.specs.Bits.{has_bit}
use Rattle.bit_addressing.specs.Row.{binary, number_bits, number_of}
use Rattle.bit_addressing.proofs.Words.{has_shr_low}
use Rattle.bit_rows.proofs.Binary.{binary_low, bits_low, get_or-binary, get_or-number_bits, length-binary, length-number_bits, value_of_binary}
use Rattle.bit_addressing.proofs.Chunks.{number_from_bits}
use Rattle.bit_addressing.specs.Binary.{value}
use Rattle.bit_slice.specs.Signed.{IsSigned, signed_of}

-- the two halves of the numbers of n digits
pub halves : (n : ℕ) → 0 < n → 2 ^ n ≡ 2 ^ (n - 1) * 2
halves n some = ap (λ k. 2 ^ k) (let e : n ≡ n - 1 + 1 = omega arith in e) ∙ pow-add 2 (n - 1) 1

-- a number below half of the range is itself
pub lower : (n x : ℕ) → x < 2 ^ (n - 1) → signed_of n x ≡ pos x
lower n x h = rw (lt-ltb x (2 ^ (n - 1)) h) refl

-- a number from half of the range on is negative
pub upper : (n x : ℕ) → 2 ^ (n - 1) ≤ x → signed_of n x ≡ negsuc (2 ^ n - 1 - x)
upper n x h = rw (le-ltb x (2 ^ (n - 1)) h) refl

one_less : (a m : ℕ) → 0 < a → (a - 1) * m + m ≡ a * m
one_less zero m some = absurd (omega arith)
one_less (suc a) m some = let e : suc a - 1 ≡ a = omega arith in rw e (omega arith)

-- 2 ^ 64 less a number has the low digits of 2 ^ n less the number
low_of_negative : (n m : ℕ) → n ≤ 64 → suc m ≤ 2 ^ n → (2 ^ 64 - suc m) % 2 ^ n ≡ 2 ^ n - suc m
low_of_negative n m few h =
    let whole : 2 ^ (64 - n) * 2 ^ n ≡ 2 ^ 64 = sym (pow-add 2 (64 - n) n) ∙ ap (λ e. 2 ^ e) (let e : 64 - n + n ≡ 64 = omega arith in e) in
    let less = one_less (2 ^ (64 - n)) (2 ^ n) (pow_pos (64 - n)) in
    let sum : (2 ^ (64 - n) - 1) * 2 ^ n + 2 ^ n ≡ 2 ^ 64 = less ∙ whole in
    let is : 2 ^ 64 - suc m ≡ (2 ^ (64 - n) - 1) * 2 ^ n + (2 ^ n - suc m) = omega arith in
    ap (λ k. k % 2 ^ n) is ∙ mod-mul-add (2 ^ (64 - n) - 1) (2 ^ n) (2 ^ n - suc m) (omega arith)

-- a number of n digits is the one that its digits stand for
pub signed_back : (n : ℕ) (x : ℤ) → 0 < n → n ≤ 64 → IsSigned n x → signed_of n (cast_unsigned w64 x % 2 ^ n) ≡ x
signed_back n (pos m) some few is =
    let half = halves n some in
    let below = is.below in
    let within : m < 2 ^ n = omega arith in
    ap (signed_of n) (mod-eq_of_lt within) ∙ lower n m below
signed_back n (negsuc m) some few is =
    let half = halves n some in
    let below = is.below in
    let out : 2 ^ n - 1 - (2 ^ n - suc m) ≡ m = omega arith in
    ap (signed_of n) (low_of_negative n m few (omega arith)) ∙ upper n (2 ^ n - suc m) (omega arith) ∙ ap negsuc out

-- the digits of the number that x stands for are those of x, and it has n digits
pub signed_digits : (n x : ℕ) → 0 < n → n ≤ 64 → x < 2 ^ n → (cast_unsigned w64 (signed_of n x) % 2 ^ n ≡ x) × IsSigned n (signed_of n x)
signed_digits n x some few below =
    let half = halves n some in
    elim (cases_lt x (2 ^ (n - 1))) [
      | inl l ↦ (ap (λ z. cast_unsigned w64 z % 2 ^ n) (lower n x l) ∙ mod-eq_of_lt below, subst (IsSigned n) (sym (lower n x l)) (record { below = l }))
      | inr l ↦
          let out : 2 ^ n - suc (2 ^ n - 1 - x) ≡ x = omega arith in (
            ap (λ z. cast_unsigned w64 z % 2 ^ n) (upper n x l) ∙ low_of_negative n (2 ^ n - 1 - x) few (omega arith) ∙ out,
            subst (IsSigned n) (sym (upper n x l)) (record { below = let h : 2 ^ n - 1 - x < 2 ^ (n - 1) = omega arith in h }),
          )
    ]

-- the digits of the number that x stands for
pub signed_same : (n x : ℕ) → 0 < n → n ≤ 64 → x < 2 ^ n → binary n (cast_unsigned w64 (signed_of n x)) ≡ binary n x
signed_same n x some few below = sym (binary_low n (cast_unsigned w64 (signed_of n x))) ∙ ap (binary n) (signed_digits n x some few below).0

-- the signed number has the same bits
pub signed_same_bits : (n x : ℕ) → 0 < n → n ≤ 64 → x < 2 ^ n → number_bits (cast_unsigned w64 (signed_of n x)) n ≡ number_bits x n
signed_same_bits n x some few below = sym (bits_low n (cast_unsigned w64 (signed_of n x))) ∙ ap (λ k. number_bits k n) (signed_digits n x some few below).0

-- a number whose highest bit is set is in the upper half
pub in_upper : (n x : ℕ) → 0 < x / 2 ^ (n - 1) → 2 ^ (n - 1) ≤ x
in_upper n x some = let h = (le-div_iff_mul-le {k = 2 ^ (n - 1)} {x = 1} {y = x} (pow_pos (n - 1))).0 (omega arith) in omega arith

-- n digits that are all ones
pub all_ones : (n : ℕ) → n ≤ 64 → 18446744073709551615 / 2 ^ (64 - n) ≡ 2 ^ n - 1
all_ones n few =
    let whole : 2 ^ n * 2 ^ (64 - n) ≡ 2 ^ 64 = sym (pow-add 2 n (64 - n)) ∙ ap (λ e. 2 ^ e) (let e : n + (64 - n) ≡ 64 = omega arith in e) in
    let less = one_less (2 ^ n) (2 ^ (64 - n)) (pow_pos n) in
    let some = pow_pos (64 - n) in
    let is : 18446744073709551615 ≡ (2 ^ n - 1) * 2 ^ (64 - n) + (2 ^ (64 - n) - 1) = omega arith in
    ap (λ k. k / 2 ^ (64 - n)) is ∙ div-mul-add (2 ^ n - 1) (2 ^ (64 - n)) (2 ^ (64 - n) - 1) (omega arith)

-- one less than the negative of a number
pub below_zero : (m : ℕ) → negsuc 0 -ℤ pos m ≡ negsuc m
below_zero zero = refl
below_zero (suc m) = let e : 0 + m ≡ m = omega arith in ap (λ k. negsuc (suc k)) e

-- a signed number of n digits is the one that its digits write
pub signed_written : (n : ℕ) (x : ℤ) → 0 < n → n ≤ 64 → IsSigned n x → signed_of n (value (binary n (cast_unsigned w64 x))) ≡ x
signed_written n x some few is =
    let y = cast_unsigned w64 x in
    ap (signed_of n) (ap (λ l. value l) (sym (binary_low n y)) ∙ value_of_binary n (y % 2 ^ n) (mod_below y (2 ^ n) (pow_pos n))) ∙ signed_back n x some few is

-- ---- digits in reverse

-- a number turned round and moved down has the digits in the other order
pub turned_digits : (n x turned : ℕ) → 0 < n → n ≤ 64 → ((p : ℕ) → p < 64 → has_bit turned p ≡ has_bit x (64 - 1 - p)) → binary n (turned / 2 ^ (64 - n)) ≡ number_bits x n
turned_digits n x turned some few round = ext_get_or false (binary n (turned / 2 ^ (64 - n))) (number_bits x n) (length-binary n (turned / 2 ^ (64 - n)) ∙ sym (length-number_bits x n))
    (λ i h.
    let long = length-binary n (turned / 2 ^ (64 - n)) in
    let below : i < n = omega arith in
    let back : 64 - 1 - (n - 1 - i + (64 - n)) ≡ i = omega arith in
    get_or-binary n (turned / 2 ^ (64 - n)) i below ∙ has_shr_low turned (64 - n) (n - 1 - i) ∙ round (n - 1 - i + (64 - n)) (omega arith) ∙ ap (has_bit x) back
    ∙ sym (get_or-number_bits x n i below))

-- no digits are the same in either order
pub none_turned : (n x : ℕ) → n ≡ 0 → (binary n 0 ≡ number_bits x n) × (number_bits 0 n ≡ binary n x)
unfolding binary number_bits
none_turned n x none = rw none (refl, refl)

-- ---- numbers whose least significant digit comes first

no_digit : (n x i : ℕ) → x < 2 ^ n → n ≤ i → has_bit x i ≡ false
no_digit n x i below past =
    let most = pow_mono {i = n} {j = i} past in
    let none : x / 2 ^ i ≡ 0 = div-eq_of_lt (omega arith) in
    ap (λ k. eqb (k % 2) 1) none

-- a number of n digits is known by them
pub number_of_bits : (n x : ℕ) → n ≤ 64 → x < 2 ^ n → x ≡ number_of (number_bits x n)
number_of_bits n x few below =
    let most = pow_mono {i = n} {j = 64} few in
    let long = length-number_bits x n in
    number_from_bits x (number_bits x n) (omega arith) (omega arith)
    (λ i h. elim (cases_lt i n) [
      | inl l ↦ sym (get_or-number_bits x n i l)
      | inr l ↦ no_digit n x i below l ∙ sym (get_or_past (number_bits x n) i false (omega arith))
    ])

-- the signed number is read back from its bits
pub signed_bits_written : (n : ℕ) (x : ℤ) → 0 < n → n ≤ 64 → IsSigned n x → signed_of n (number_of (number_bits (cast_unsigned w64 x) n)) ≡ x
signed_bits_written n x some few is =
    let y = cast_unsigned w64 x in
    ap (signed_of n) (ap number_of (sym (bits_low n y)) ∙ sym (number_of_bits n (y % 2 ^ n) few (mod_below y (2 ^ n) (pow_pos n)))) ∙ signed_back n x some few is
