-- The text of words in hexadecimal.
use Rattle.std.specs.Prelude.{◌≡◌, ℕ, zero, suc, ◌*◌, ◌/◌, ◌%◌, ◌^◌, false, List, [], ◌∷◌, ◌++◌, codes, refl}
use Rattle.std.specs.Fmt.{digit_glyph}

-- the n lowest hexadecimal digits of a number, the most significant first
unfoldable pub hex_digits : ℕ → ℕ → List ℕ
hex_digits zero x = []
hex_digits (suc n) x = digit_glyph false (x / 2 ^ (4 * n) % 16) ∷ hex_digits n x

-- words of w bits, all digits of each, with a space between two
unfoldable pub words_text : ℕ → List ℕ → List ℕ
words_text w [] = []
words_text w (x ∷ []) = hex_digits (w / 4) x
words_text w (x ∷ y ∷ xs) = hex_digits (w / 4) x ++ 32 ∷ words_text w (y ∷ xs)

no_words : words_text 8 [] ≡ []
unfolding words_text
no_words = refl

two_words : words_text 16 (0xffff ∷ 0x000f ∷ []) ≡ codes "ffff 000f"
unfolding words_text hex_digits
two_words = refl
