-- Ascending numbers as bits.
use Rattle.std.proofs.Common.{◌≡◌, ℕ, zero, suc, ◌+◌, ◌*◌, ◌/◌, ◌%◌, ◌^◌, ◌<◌, Bool, true, false, cond, List, [], ◌∷◌, length, get_or, map, refl, sym, ◌∙◌, ap, subst, arith, length-append}
use Rattle.std.specs.List.{range_with_len}
use Rattle.std.proofs.lemmas.List.FromFn.{get_or-map-range_with_len, length-map-range_with_len}
use Rattle.std.proofs.lemmas.List.{ext_get_or}
use Rattle.bit_blocks.specs.Numbers.{Ascends, has, those}
use Rattle.bit_blocks.proofs.Those.{has_those, those_first, those_joined, those_none, those_of, those_same}
use Rattle.bit_portable.specs.Stored.{word_total}
use Rattle.bit_portable.specs.Form.{digits}
use Rattle.bit_portable.specs.Portable.{word_bit, word_of, words_of}
use Rattle.bit_portable.proofs.Coded.{Wholes}
use Rattle.bit_portable.proofs.Digits.{bit, digit_bit, digits_below, mapped_same, number_digits, ones_of_digits, trues, worth}

word_below : (xs : List ℕ) (j : ℕ) → word_of xs j < 2 ^ 64
word_below xs j =
    let bits : List Bool = map (has xs) (range_with_len (64 * j) 64) in
    let len : length bits ≡ 64 = length-map-range_with_len (has xs) (64 * j) 64 in
    subst (λ (k : ℕ). digits bits < 2 ^ k) len (digits_below bits)

words_whole : (xs : List ℕ) (a n : ℕ) → Wholes (map (word_of xs) (range_with_len a n))
words_whole xs a zero = tt
words_whole xs a (suc n) = (word_below xs a, words_whole xs (a + 1) n)

pub words_fit : (xs : List ℕ) → Wholes (words_of xs)
unfolding words_of
words_fit xs = words_whole xs 0 1024

pub words_count : (xs : List ℕ) → length (words_of xs) ≡ 1024
unfolding words_of
words_count xs = length-map-range_with_len (word_of xs) 0 1024

word_at : (xs : List ℕ) (j : ℕ) → j < 1024 → get_or (words_of xs) j 0 ≡ word_of xs j
unfolding words_of
word_at xs j below = get_or-map-range_with_len (word_of xs) 0 1024 j j 0 below (omega arith)

word_of_bit : (xs : List ℕ) (j i : ℕ) → i < 64 → bit (word_of xs j) i ≡ has xs (64 * j + i)
word_of_bit xs j i below = digit_bit (map (has xs) (range_with_len (64 * j) 64)) i ∙ get_or-map-range_with_len (has xs) (64 * j) 64 i (64 * j + i) false below refl

words_bit : (xs : List ℕ) (k : ℕ) → k < 65536 → word_bit (words_of xs) k ≡ has xs k
words_bit xs k below =
    let place : 64 * (k / 64) + k % 64 ≡ k = omega arith in
    ap (λ (w : ℕ). bit w (k % 64)) (word_at xs (k / 64) (omega arith)) ∙ word_of_bit xs (k / 64) (k % 64) (omega arith) ∙ ap (has xs) place

-- the words have the numbers
pub words_numbers : (xs : List ℕ) → Ascends xs → those (word_bit (words_of xs)) 0 65536 ≡ xs
words_numbers xs h = those_same (word_bit (words_of xs)) (has xs) 0 65536 (λ k low high. words_bit xs k (omega arith)) ∙ sym (those_of 0 65536 xs 65536 refl h)

-- as many bits are 1 as there are numbers
one_counted : (b : Bool) (a : ℕ) (rest : List ℕ) → worth b + length rest ≡ length (cond b (a ∷ rest) rest)
one_counted true a rest = omega arith
one_counted false a rest = omega arith

counted : (p : ℕ → Bool) (a n : ℕ) → trues (map p (range_with_len a n)) ≡ length (those p a n)
counted p a zero = sym (ap length (those_none p a))
counted p a (suc n) = ap (λ (k : ℕ). worth (p a) + k) (counted p (a + 1) n) ∙ one_counted (p a) a (those p (a + 1) n) ∙ sym (ap length (those_first p a n))

total_of : (xs : List ℕ) (a n : ℕ) → word_total (map (word_of xs) (range_with_len a n)) ≡ length (those (has xs) (64 * a) (64 * n))
total_of xs a zero = sym (ap length (those_none (has xs) (64 * a)))
total_of xs a (suc n) =
    let here = ones_of_digits (map (has xs) (range_with_len (64 * a) 64)) ∙ counted (has xs) (64 * a) 64 in
    let rest = total_of xs (a + 1) n in
    let next : 64 * (a + 1) ≡ 64 * a + 64 = omega arith in
    let size : 64 + 64 * n ≡ 64 * suc n = omega arith in
    let parts = ap length (those_joined (has xs) (64 * a) 64 (64 * n)) ∙ length-append (those (has xs) (64 * a) 64) (those (has xs) (64 * a + 64) (64 * n)) in
    let moved = ap (λ (k : ℕ). length (those (has xs) k (64 * n))) next in
    let whole = ap (λ (k : ℕ). length (those (has xs) (64 * a) k)) size in
    omega arith

pub words_total : (xs : List ℕ) → Ascends xs → word_total (words_of xs) ≡ length xs
unfolding words_of
words_total xs h = total_of xs 0 1024 ∙ sym (ap length (those_of 0 65536 xs 65536 refl h))

quotient : (j i : ℕ) → i < 64 → (64 * j + i) / 64 ≡ j
quotient j i lt = omega arith

remainder : (j i : ℕ) → i < 64 → (64 * j + i) % 64 ≡ i
remainder j i lt = omega arith

moved : (f g : ℕ → Bool) (a b n : ℕ) → ((i : ℕ) → i < n → f (a + i) ≡ g (b + i)) → map f (range_with_len a n) ≡ map g (range_with_len b n)
moved f g a b zero same = refl
moved f g a b (suc n) same =
    let first : f a ≡ g b = ap f (omega arith) ∙ same 0 (omega arith) ∙ ap g (omega arith) in
    ap (λ (t : Bool). t ∷ map f (range_with_len (a + 1) n)) first
    ∙ ap (λ (t : List Bool). g b ∷ t) (moved f g (a + 1) (b + 1) n (λ i lt. ap f (omega arith) ∙ same (i + 1) (omega arith) ∙ ap g (omega arith)))

whole : (ws : List ℕ) (j : ℕ) → j < length ws → Wholes ws → get_or ws j 0 < 2 ^ 64
whole [] j inside fits = absurd (omega arith)
whole (w ∷ ws) zero inside fits = fits.0
whole (w ∷ ws) (suc j) inside fits = whole ws j (omega arith) fits.1

word_bit_in : (ws : List ℕ) (j i : ℕ) → i < 64 → word_bit ws (64 * j + i) ≡ bit (get_or ws j 0) (0 + i)
word_bit_in ws j i lt =
    let same : i ≡ 0 + i = omega arith in
    ap (λ (q : ℕ). bit (get_or ws q 0) ((64 * j + i) % 64)) (quotient j i lt) ∙ ap (bit (get_or ws j 0)) (remainder j i lt ∙ same)

-- there is one way to write numbers as bits
pub words_again : (ws : List ℕ) → length ws ≡ 1024 → Wholes ws → words_of (those (word_bit ws) 0 65536) ≡ ws
words_again ws len fits =
    let xs : List ℕ = those (word_bit ws) 0 65536 in
    ext_get_or 0 (words_of xs) ws (words_count xs ∙ sym len) (λ j inside.
    let below : j < 1024 = subst (λ (k : ℕ). j < k) (words_count xs) inside in
    word_at xs j below
    ∙ ap digits (mapped_same (has xs) (word_bit ws) (64 * j) 64 (λ k low high. has_those (word_bit ws) 0 65536 k (omega arith) (omega arith)))
    ∙ ap digits (moved (word_bit ws) (bit (get_or ws j 0)) (64 * j) 0 64 (λ i lt. word_bit_in ws j i lt))
    ∙ number_digits 64 (get_or ws j 0) (whole ws j (omega arith) fits))
