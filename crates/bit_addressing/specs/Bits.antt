-- The bits of a word.
use Rattle.std.specs.Prelude.{◌≡◌, ℕ, ◌/◌, ◌%◌, ◌^◌, Bool, true, false, eqb, ◌⊎◌, refl}

-- bit p of a word
abbrev pub has_bit : ℕ → ℕ → Bool
has_bit w p = eqb (w / 2 ^ p % 2) 1

-- how many bits a word may have
abbrev pub IsWidth : ℕ → Type 0
IsWidth w = (w ≡ 8) ⊎ (w ≡ 16) ⊎ (w ≡ 32) ⊎ (w ≡ 64)

-- 28 is 11100 in binary
low_bit : has_bit 28 1 ≡ false
low_bit = refl

middle_bit : has_bit 28 2 ≡ true
middle_bit = refl

high_bit : has_bit 28 4 ≡ true
high_bit = refl

past_the_bits : has_bit 28 5 ≡ false
past_the_bits = refl
