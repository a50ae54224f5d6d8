-- The ones of a number, divided at a place.
use Rattle.std.proofs.Common.{◌≡◌, ℕ, zero, suc, ◌+◌, ◌-◌, ◌*◌, ◌/◌, ◌%◌, ◌^◌, ◌<◌, ◌≤◌, true, refl, ◌∙◌, ap, arith}
use Rattle.std.specs.Prelude.{count_ones, eqb, bit_and}
use Rattle.std.proofs.lemmas.Nat.{ones_cat, mod-pow-add, mod_below, pow_pos, and_mask, one_shl}
use Rattle.std.proofs.Math.Nat.{pow-suc}
use Rattle.std.proofs.lemmas.Nat.{ones_le_self}
use Rattle.bit_slice.specs.Numbered.{IsPower}

-- a power of two above 1 is twice a power of two
pub halved : (n : ℕ) → IsPower n → 1 < n → (n / 2 + n / 2 ≡ n) × IsPower (n / 2)
halved n (zero, is) h = absurd (omega arith)
halved n (suc j, is) h =
    let twice : 2 ^ suc j ≡ 2 ^ j * 2 = pow-suc 2 j in
    let half : n / 2 ≡ 2 ^ j = omega arith in
    (omega arith, (j, half))

-- the lowest a + b bits have the ones of the lowest b and of the a after them
pub ones_parted : (n a b : ℕ) → count_ones (n % 2 ^ (a + b)) ≡ count_ones (n / 2 ^ b % 2 ^ a) + count_ones (n % 2 ^ b)
ones_parted n a b = ap count_ones (mod-pow-add n a b) ∙ ones_cat b (n / 2 ^ b % 2 ^ a) (n % 2 ^ b) (mod_below n (2 ^ b) (pow_pos b))

-- the ones under a mask
pub ones_masked : (n k : ℕ) → k < 64 → count_ones (bit_and n ((1 * 2 ^ k) % 2 ^ 64 - 1)) ≡ count_ones (n % 2 ^ k)
ones_masked n k h = ap (λ m. count_ones (bit_and n (m - 1))) (one_shl k 64 h) ∙ ap count_ones (and_mask n k)

-- a part of one bit that has a one
pub one_left : (n left : ℕ) → left < count_ones (n % 2 ^ 1) → (left ≡ 0) × (eqb (n % 2) 1 ≡ true)
one_left n left h =
    let low : n % 2 ^ 1 ≡ n % 2 = refl in
    let most = ones_le_self (n % 2 ^ 1) in
    let is : n % 2 ≡ 1 = omega arith in
    (omega arith, ap (λ m. eqb m 1) is)

-- the last part has one bit
pub one_wide : (n : ℕ) → IsPower n → n ≤ 1 → n ≡ 1
one_wide n (j, is) h = let p = pow_pos j in omega arith
