-- The text of words, digit by digit and word by word.
use Rattle.std.proofs.Common.{◌≡◌, ℕ, suc, ◌+◌, ◌-◌, ◌*◌, ◌/◌, ◌%◌, ◌^◌, ◌<◌, ◌≤◌, false, List, [], ◌∷◌, ◌++◌, length, map, take, get_or, refl, sym, ◌∙◌, ap, arith, append_assoc}
use Rattle.std.proofs.lemmas.List.{append-nil, length-map, length-take-le, map-append, take_more}
use Rattle.std.specs.Fmt.{digit_glyph}
use Rattle.std.proofs.Math.Nat.{mod-lt}
use Rattle.bit_addressing.specs.Bits.{has_bit}
use Rattle.bit_addressing.proofs.Words.{has_low, has_shr_low, same_word}
use Rattle.bit_lines.specs.Words.{hex_digits, words_text}

-- one digit more
pub next_digit : (old out : List ℕ) (n i x digit : ℕ) → i < n → digit ≡ digit_glyph false (x / 2 ^ (4 * (n - 1 - i)) % 16) → out ++ hex_digits (n - i) x ≡ old ++ hex_digits n x → (out ++ digit ∷ []) ++ hex_digits (n - (i + 1)) x ≡ old ++ hex_digits n x
unfolding hex_digits
next_digit old out n i x digit below is so_far =
    let left : n - i ≡ suc (n - (i + 1)) = omega arith in
    let at : n - 1 - i ≡ n - (i + 1) = omega arith in
    append_assoc out (digit ∷ []) (hex_digits (n - (i + 1)) x)
    ∙ ap (λ d. out ++ d ∷ hex_digits (n - (i + 1)) x) (is ∙ ap (λ k. digit_glyph false (x / 2 ^ (4 * k) % 16)) at)
    ∙ ap (λ k. out ++ hex_digits k x) (sym left) ∙ so_far

-- no digit is left
pub last_digit : (old out : List ℕ) (n i x : ℕ) → n ≤ i → out ++ hex_digits (n - i) x ≡ old ++ hex_digits n x → out ≡ old ++ hex_digits n x
unfolding hex_digits
last_digit old out n i x past so_far =
    let none : n - i ≡ 0 = omega arith in
    sym (append-nil out) ∙ ap (λ k. out ++ hex_digits k x) (sym none) ∙ so_far

-- one word more, the first
pub first_word : (w x : ℕ) → words_text w (x ∷ []) ≡ hex_digits (w / 4) x
unfolding words_text
first_word w x = refl

-- one word more after others
pub next_word : (w : ℕ) (xs : List ℕ) (x : ℕ) → 0 < length xs → words_text w (xs ++ x ∷ []) ≡ (words_text w xs ++ 32 ∷ []) ++ hex_digits (w / 4) x
unfolding words_text
next_word w [] x some = absurd (omega arith)
next_word w (y ∷ []) x some = sym (append_assoc (hex_digits (w / 4) y) (32 ∷ []) (hex_digits (w / 4) x))
next_word w (y ∷ z ∷ xs) x some =
    ap (λ l. hex_digits (w / 4) y ++ 32 ∷ l) (next_word w (z ∷ xs) x (omega arith))
    ∙ sym (append_assoc (hex_digits (w / 4) y) (32 ∷ words_text w (z ∷ xs) ++ 32 ∷ []) (hex_digits (w / 4) x)
    ∙ ap (λ l. hex_digits (w / 4) y ++ l) refl) ∙ ap (λ l. l ++ hex_digits (w / 4) x) (sym (append_assoc (hex_digits (w / 4) y) (32 ∷ words_text w (z ∷ xs)) (32 ∷ [])))

-- four bits that are the same are the same digit
pub same_nibble : (a b p w : ℕ) → p + 3 < w → ((q : ℕ) → q < w → has_bit a q ≡ has_bit b q) → a / 2 ^ p % 16 ≡ b / 2 ^ p % 16
same_nibble a b p w within same = same_word 4 (a / 2 ^ p % 16) (b / 2 ^ p % 16) (mod-lt (a / 2 ^ p) (omega arith)) (mod-lt (b / 2 ^ p) (omega arith))
    (λ q h. has_low (a / 2 ^ p) 4 q h ∙ has_shr_low a p q ∙ same (q + p) (omega arith) ∙ sym (has_low (b / 2 ^ p) 4 q h ∙ has_shr_low b p q))

-- no word yet
pub nothing : (w : ℕ) (out : List ℕ) → out ≡ out ++ words_text w []
unfolding words_text
nothing w out = sym (append-nil out)

module _ {X : Type 0} (value : X → ℕ) (w : ℕ) (words : List X) where
  taken : (i : ℕ) (x : X) → i < length words → x ≡ get_or words i x → map value (take (i + 1) words) ≡ map value (take i words) ++ value x ∷ []
  taken i x inside is = ap (map value) (take_more words i x inside ∙ ap (λ y. take i words ++ y ∷ []) (sym is)) ∙ map-append value (take i words) (x ∷ [])

  -- the first word is appended
  pub row_first : (old out new : List ℕ) (i : ℕ) (x : X) → i < length words → x ≡ get_or words i x → i ≡ 0 → out ≡ old ++ words_text w (map value (take i words)) → new ≡ out ++ hex_digits (w / 4) (value x) → new ≡ old ++ words_text w (map value (take (i + 1) words))
  row_first old out new i x inside is first so_far more =
      more ∙ ap (λ l. l ++ hex_digits (w / 4) (value x)) (so_far ∙ ap (λ k. old ++ words_text w (map value (take k words))) first ∙ sym (nothing w old))
      ∙ ap (λ l. old ++ l) (sym (first_word w (value x)))
      ∙ ap (λ l. old ++ words_text w l) (sym (taken i x inside is ∙ ap (λ k. map value (take k words) ++ value x ∷ []) first))

  -- a space and another word
  pub row_next : (old out mid new : List ℕ) (i : ℕ) (x : X) → i < length words → x ≡ get_or words i x → 0 < i → out ≡ old ++ words_text w (map value (take i words)) → mid ≡ out ++ 32 ∷ [] → new ≡ mid ++ hex_digits (w / 4) (value x) → new ≡ old ++ words_text w (map value (take (i + 1) words))
  row_next old out mid new i x inside is some so_far space more =
      let before : List ℕ = map value (take i words) in
      let size : length before ≡ i = length-map (take i words) value ∙ length-take-le i words (omega arith) in
      more ∙ ap (λ l. l ++ hex_digits (w / 4) (value x)) (space ∙ ap (λ l. l ++ 32 ∷ []) so_far ∙ append_assoc old (words_text w before) (32 ∷ []))
      ∙ append_assoc old (words_text w before ++ 32 ∷ []) (hex_digits (w / 4) (value x))
      ∙ ap (λ l. old ++ l) (sym (next_word w before (value x) (omega arith)))
      ∙ ap (λ l. old ++ words_text w l) (sym (taken i x inside is))
