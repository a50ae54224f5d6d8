-- Words as a row of bits.
use Rattle.std.proofs.Common.{◌≡◌, ℕ, ◌+◌, ◌*◌, Bool, false, List, length, get_or, map, refl, sym, ◌∙◌, ap, arith}
use Rattle.std.specs.Prelude.{slice_range}
use Rattle.std.proofs.lemmas.List.{map-id, take_all}
use Rattle.bit_addressing.specs.Row.{row_of, words_for}
use Rattle.bit_addressing.proofs.Rows.{get_or-row_of, length-row_of}
use Rattle.bit_slice.specs.Places.{ones_of}
use Rattle.bit_blocks.specs.Numbers.{those}
use Rattle.bit_blocks.proofs.Those.{those_same}
use Rattle.bit_portable.specs.Portable.{word_bit}

-- the row of words of 64 bits, the lowest bit of each first
abbrev pub row64 : List ℕ → List Bool
row64 words = row_of (λ w i. i) 64 words

ones_are : (bits : List Bool) → ones_of bits ≡ those (λ i. get_or bits i false) 0 (length bits)
unfolding those
ones_are bits = refl

-- the true bits of a row are the numbers of its words
pub row_numbers : (words : List ℕ) → length words ≡ 1024 → ones_of (row64 words) ≡ those (word_bit words) 0 65536
row_numbers words len =
    let size : length (row64 words) ≡ 65536 = length-row_of (λ w i. i) 64 words ∙ ap (λ (n : ℕ). 64 * n) len in
    ones_are (row64 words)
    ∙ ap (λ (n : ℕ). those (λ i. get_or (row64 words) i false) 0 n) size
    ∙ those_same (λ i. get_or (row64 words) i false) (word_bit words) 0 65536 (λ k low high. get_or-row_of (λ w i. i) 64 words k (omega arith))

-- what a list of 65536 bits shows of its words
pub shown_numbers : (words : List ℕ) (bits : List Bool) (head : ℕ) → length words ≡ 1024 → length bits ≡ 65536 → head ≡ 0
    → slice_range (row64 (map (λ (w : ℕ). w) words)) head (head + length bits) ≡ bits → those (word_bit words) 0 65536 ≡ ones_of bits
shown_numbers words bits head len size begins shown =
    let whole : length (row64 words) ≡ 65536 = length-row_of (λ w i. i) 64 words ∙ ap (λ (n : ℕ). 64 * n) len in
    let all : slice_range (row64 words) 0 65536 ≡ row64 words = take_all 65536 (row64 words) (omega arith) in
    let row_is : slice_range (row64 (map (λ (w : ℕ). w) words)) head (head + length bits) ≡ row64 words =
    ap (λ (ws : List ℕ). slice_range (row64 ws) head (head + length bits)) (map-id words)
    ∙ ap (λ (n : ℕ). slice_range (row64 words) head (head + n)) size
    ∙ ap (λ (h : ℕ). slice_range (row64 words) h (h + 65536)) begins
    ∙ all in
    sym (row_numbers words len) ∙ ap ones_of (sym row_is ∙ shown)

pub count_of_words : (head : ℕ) (bits : List Bool) → head ≡ 0 → length bits ≡ 65536 → words_for 64 (head + length bits) ≡ 1024
unfolding words_for
count_of_words head bits begins size = ap (λ (n : ℕ). words_for 64 (head + n)) size ∙ ap (λ (h : ℕ). words_for 64 (h + 65536)) begins
