use Rattle.std.proofs.Common.{ℕ, ◌+◌, List, map, sym, ◌∙◌, ap}
use Rattle.std.specs.Prelude.{slice_range}
use Rattle.bit_addressing.specs.Row.{words_for}
use Rattle.bit_slice.specs.BitSlice.{head_of, len_of, list_of}
use Rattle.bit_portable.proofs.Rowed.{count_of_words, row64, shown_numbers}
use Rattle.bit_portable.proofs.bits.words_lent.Goals as goal

pub returns-clause-len : goal.returns-clause-len
returns-clause-len c =
    let bits = c.args.bits in
    c.as_raw_slice.ensures.exact ∙ ap (λ (n : ℕ). words_for 64 (head_of bits + n)) (c.requires.len ∙ sym c.requires.size)
    ∙ count_of_words (head_of bits) (list_of bits) c.requires.head c.requires.size

pub returns-clause-numbers : goal.returns-clause-numbers
returns-clause-numbers c =
    let bits = c.args.bits in
    let words = c.as_raw_slice.result.now in
    let len =
    c.as_raw_slice.ensures.exact ∙ ap (λ (n : ℕ). words_for 64 (head_of bits + n)) (c.requires.len ∙ sym c.requires.size)
    ∙ count_of_words (head_of bits) (list_of bits) c.requires.head c.requires.size in
    shown_numbers words (list_of bits) (head_of bits) len c.requires.size c.requires.head
    (ap (λ (n : ℕ). slice_range (row64 (map (λ (w : ℕ). w) words)) (head_of bits) (head_of bits + n)) (c.requires.size ∙ sym c.requires.len)
    ∙ ap (λ (ws : List ℕ). slice_range (row64 (map (λ (w : ℕ). w) ws)) (head_of bits) (head_of bits + len_of bits)) c.as_raw_slice.ensures.words)
