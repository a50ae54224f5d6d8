-- The digits that a list of bits is written as.
use Rattle.std.specs.Prelude.{◌≡◌, ◌⊎◌, ℕ, zero, suc, Bool, true, false, List, [], ◌∷◌, ◌++◌, length, take, drop, codes, refl}
use Rattle.std.specs.Fmt.{digit_glyph}
use Rattle.bit_addressing.specs.Row.{words_for}
use Rattle.bit_addressing.specs.Binary.{value_after}
use Rattle.bit_addressing.specs.Text.{digit_of}

-- each digit after a comma and a space
abbrev pub spaced : List Bool → List ℕ
spaced [] = []
spaced (b ∷ bits) = 44 ∷ 32 ∷ digit_of b ∷ spaced bits

-- n groups of bits of one size, a digit each; the last group may be short
abbrev pub digits_from : ℕ → Bool → ℕ → List Bool → List ℕ
digits_from size upper zero bits = []
digits_from size upper (suc n) bits = digit_glyph upper (value_after 0 (take size bits)) ∷ digits_from size upper n (drop size bits)

-- a list cut from its front in groups, as many as it takes, a digit each, between brackets
abbrev pub digits_text : ℕ → Bool → List Bool → List ℕ
digits_text size upper bits = 91 ∷ digits_from size upper (words_for size (length bits)) bits ++ 93 ∷ []

-- how many bits a binary, an octal and a hexadecimal digit has
abbrev pub IsDigitSize : ℕ → Type 0
IsDigitSize size = (size ≡ 1) ⊎ (size ≡ 3) ⊎ (size ≡ 4)

abbrev five : List Bool
five = true ∷ true ∷ false ∷ true ∷ false ∷ []

in_binary : digits_text 1 false five ≡ codes "[11010]"
unfolding words_for
in_binary = refl

in_octal : digits_text 3 false five ≡ codes "[62]"
unfolding words_for
in_octal = refl

in_lower_hexadecimal : digits_text 4 false five ≡ codes "[d0]"
unfolding words_for
in_lower_hexadecimal = refl

in_upper_hexadecimal : digits_text 4 true five ≡ codes "[D0]"
unfolding words_for
in_upper_hexadecimal = refl
