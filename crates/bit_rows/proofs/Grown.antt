-- Words that are appended, of which the first bits are those of a number.
use Rattle.std.proofs.Common.{◌≡◌, ℕ, ◌+◌, ◌-◌, ◌*◌, ◌/◌, ◌%◌, ◌^◌, ◌<◌, ◌≤◌, Bool, true, false, ◌&&◌, eqb, List, [], ◌∷◌, ◌++◌, length, replicate, slice_range, bit_and, sym, ◌∙◌, ap, inl, inr, arith}
use Rattle.std.proofs.Common.{rules}
use Rattle.std.proofs.Math.Bool.{and-true, and-false}
use Rattle.std.proofs.lemmas.Bool.{cases_lt}
use Rattle.std.proofs.lemmas.List.{ext_get_or, places, same_lists, length-append, length-replicate, get_or_append_left, get_or-append_right, get_or-replicate}
use Rattle.std.proofs.lemmas.Nat.Bits.{bit_at_ones, bit_at_ones_above, ones_shr}
use Rattle.bit_addressing.specs.Bits.{has_bit}
use Rattle.bit_addressing.specs.Order.{IsPermutation}
use Rattle.bit_addressing.specs.Row.{number_bits, put, row_of}
use Rattle.std.proofs.Common.{◌≢◌, mul_comm}
use Rattle.std.proofs.Math.Nat.{div-add-mod, mod-lt}
use Rattle.std.proofs.lemmas.Nat.{div-add-mod'}
use Rattle.bit_addressing.specs.Row.{sized, words_for}
use Rattle.bit_rows.proofs.Binary.{get_or-number_bits, length-number_bits}
use Rattle.bit_addressing.proofs.Runs.{mul_mono, slice_repeated}
use Rattle.bit_addressing.proofs.lists.Sized.{one_more_word, room, sized_more, words_even, words_for_le, words_odd}
use Rattle.bit_addressing.proofs.Words.{has_and, has_shr_low, has_shl_high}
use Rattle.bit_addressing.proofs.Rows.{length-row_of, get_or-row_one, row_repeated}
use Rattle.bit_addressing.proofs.lists.Shown.{get_or-run, length-run}

-- bits put over the last of a list, and others after it
pub put_appended : (xs ys : List Bool) (w d : ℕ) → d ≡ length xs → length ys ≤ w → put (xs ++ replicate w false) d ys ≡ xs ++ ys ++ replicate (w - length ys) false
unfolding put
put_appended xs ys w d is h = same_lists _ _ (search (rules, places)) (λ i b below. grind (arith, places))

-- bits put over the end of a list and into a new word are the list with all of them appended
pub put_over : (xs ys zs : List Bool) (d w : ℕ) → d + length ys ≡ length xs → length zs ≤ w → put (xs ++ zs ++ replicate (w - length zs) false) d ys ≡ put (xs ++ replicate w false) d (ys ++ zs)
unfolding put
put_over xs ys zs d w is h = same_lists _ _ (search (rules, places)) (λ i b below. grind (arith, places))

-- the words for b bits, of which the last one holds some
pub words_for_is : (w b c : ℕ) → 0 < w → w * c < b → b ≤ w * c + w → words_for w b ≡ c + 1
words_for_is w b c positive more fits =
    let next : w * (c + 1) ≡ w * c + w = mul_comm w (c + 1) ∙ one_more_word c w ∙ ap (λ m. m + w) (mul_comm c w) in
    let most = words_for_le w b (c + 1) positive (rw next fits) in
    let least = (room w b positive).0 in
    elim (cases_lt (words_for w b) (c + 1)) [
      | inl l ↦
          let fewer : words_for w b * w ≤ c * w = mul_mono (words_for w b) c w (omega arith) in
          let left = mul_comm w (words_for w b) in
          let right = mul_comm w c in
          absurd (omega arith)
      | inr l ↦ omega arith
    ]

-- one word more holds w bits more
pub one_word_more : (w size n count : ℕ) → size ≡ w * n → count ≡ n + 1 → size + w ≡ w * count
one_word_more w size n count is more = rw (is, more) (ap (λ m. m + w) (mul_comm w n) ∙ sym (one_more_word n w) ∙ mul_comm (n + 1) w)

-- where the first `end` bits fill their words, and where they do not
pub full_words : (w end count : ℕ) → 0 < w → count ≡ words_for w end → end % w ≡ 0 → w * count ≡ end
full_words w end count positive is even =
    let d = div-add-mod' end w in
    let e = words_even w end positive even in
    ap (λ m. w * m) (is ∙ sym e) ∙ mul_comm w (end / w) ∙ omega arith

-- where bits do not fill their words, their last word and what is free in it
pub odd_words : (w end count : ℕ) → 0 < w → count ≡ words_for w end → end % w ≢ 0 → (end / w < count) × (w * count ≡ end + (w - end % w)) × (end / w * w + end % w ≡ end) × (end / w + 1 ≡ count)
odd_words w end count positive is odd =
    let d = div-add-mod' end w in
    let low = mod-lt end positive in
    let e : end / w + 1 ≡ count = words_odd w end positive odd ∙ sym is in
    let all : w * count ≡ end / w * w + w = ap (λ m. w * m) (sym e) ∙ mul_comm w (end / w + 1) ∙ one_more_word (end / w) w in
    (omega arith, omega arith, d, e)

-- the words for `n` bits more, which the last word has room for
pub same_words : (w end n count : ℕ) → 0 < w → count ≡ words_for w end → end % w ≢ 0 → n ≤ w - end % w → words_for w (end + n) ≡ count
same_words w end n count positive is odd fits =
    let o = odd_words w end count positive is odd in
    let low : end % w < w = mod-lt end positive in
    let before : w * (end / w) ≡ end / w * w = mul_comm w (end / w) in
    words_for_is w (end + n) (end / w) positive (omega arith) (omega arith) ∙ o.3

-- and one word more, where it has not
pub more_words : (w end n count : ℕ) → 0 < w → count ≡ words_for w end → end % w ≢ 0 → w - end % w < n → n ≤ w → words_for w (end + n) ≡ count + 1
more_words w end n count positive is odd over fits =
    let o = odd_words w end count positive is odd in
    let low : end % w < w = mod-lt end positive in
    words_for_is w (end + n) count positive (omega arith) (omega arith)

-- a word with the bits after words that are full
pub part_appended : (w : ℕ) (xs ys : List Bool) (end upto n : ℕ) → end ≡ length xs → length ys ≡ n → n ≤ w → length xs + w ≡ w * words_for w upto → xs ++ ys ++ replicate (w - n) false ≡ put (sized w xs upto) end ys
part_appended w xs ys end upto n at size fits all =
    ap (λ m. xs ++ ys ++ replicate (w - m) false) (sym size) ∙ sym (put_appended xs ys w end at (omega arith)) ∙ ap (λ r. put r end ys) (sized_more w xs upto w all)

-- bits in the last word, and in one after it
pub part_over : (w : ℕ) (xs ys zs : List Bool) (end upto n : ℕ) → end + length ys ≡ length xs → length zs ≡ n → n ≤ w → length xs + w ≡ w * words_for w upto → put (xs ++ zs ++ replicate (w - n) false) end ys ≡ put (sized w xs upto) end (ys ++ zs)
part_over w xs ys zs end upto n at size fits all =
    ap (λ m. put (xs ++ zs ++ replicate (w - m) false) end ys) (sym size) ∙ put_over xs ys zs end w at (omega arith) ∙ ap (λ r. put r end (ys ++ zs)) (sized_more w xs upto w all)

-- the lowest bits of a number are its first, and then those of what is left when they are shifted out
pub number_bits_parted : (x n m k : ℕ) → n + m ≡ k → number_bits x n ++ number_bits (x / 2 ^ n) m ≡ number_bits x k
number_bits_parted x n m k is =
    let first : length (number_bits x n) ≡ n = length-number_bits x n in
    let second : length (number_bits (x / 2 ^ n) m) ≡ m = length-number_bits (x / 2 ^ n) m in
    let both : length (number_bits x n ++ number_bits (x / 2 ^ n) m) ≡ n + m = simp length-append (omega arith) in
    ext_get_or false (number_bits x n ++ number_bits (x / 2 ^ n) m) (number_bits x k) (both ∙ is ∙ sym (length-number_bits x k)) (λ i h.
    elim (cases_lt i n) [
      | inl l ↦ get_or_append_left (number_bits x n) (number_bits (x / 2 ^ n) m) false i (omega arith) ∙ get_or-number_bits x n i l ∙ sym (get_or-number_bits x k i (omega arith))
      | inr l ↦
          let back : i - n + n ≡ i = omega arith in
          get_or-append_right (number_bits x n) (number_bits (x / 2 ^ n) m) n i false first l ∙ get_or-number_bits (x / 2 ^ n) m (i - n) (omega arith) ∙ has_shr_low x n (i - n) ∙ ap (has_bit x) back ∙ sym (get_or-number_bits x k i (omega arith))
    ])

-- the bits of a number, moved up in a word
pub run_shifted : (place : ℕ → ℕ → ℕ) (w v made x low n : ℕ) → 0 < w → w ≤ 64 → low + n ≤ w
    → ((p : ℕ) → p < w → has_bit made p ≡ has_bit (x * 2 ^ low % 2 ^ 64) p) → ((i : ℕ) → i < w → has_bit v (place w i) ≡ has_bit made i)
    → slice_range (row_of place w (v ∷ [])) low (low + n) ≡ number_bits x n
run_shifted place w v made x low n positive small within narrowed ordered =
    let one : List Bool = row_of place w (v ∷ []) in
    let whole : length one ≡ w * 1 = length-row_of place w (v ∷ []) in
    let a : length (slice_range one low (low + n)) ≡ n = length-run one low n (omega arith) in
    ext_get_or false (slice_range one low (low + n)) (number_bits x n) (a ∙ sym (length-number_bits x n)) (λ i h.
    let inside : i < n = omega arith in
    let back : low + i - low ≡ i = omega arith in
    get_or-run one low n i inside ∙ get_or-row_one place w v (low + i) positive (omega arith)
    ∙ ordered (low + i) (omega arith) ∙ narrowed (low + i) (omega arith) ∙ has_shl_high 64 x low (low + i) (omega arith) (omega arith)
    ∙ ap (has_bit x) back ∙ sym (get_or-number_bits x n i inside))

-- a word of the lowest bits of a number
pub part_word : (place : ℕ → ℕ → ℕ) (w v made x n : ℕ) → 0 < w → w ≤ 64 → n ≤ w
    → ((p : ℕ) → p < w → has_bit made p ≡ has_bit (bit_and x ((2 ^ 64 - 1) / 2 ^ (64 - n))) p) → ((i : ℕ) → i < w → has_bit v (place w i) ≡ has_bit made i)
    → row_of place w (v ∷ []) ≡ number_bits x n ++ replicate (w - n) false
part_word place w v made x n positive small within narrowed ordered =
    let one : List Bool = row_of place w (v ∷ []) in
    let whole : length one ≡ w * 1 = length-row_of place w (v ∷ []) in
    let first : length (number_bits x n) ≡ n = length-number_bits x n in
    let rest : length (replicate (w - n) false) ≡ w - n = length-replicate (w - n) false in
    let both : length (number_bits x n ++ replicate (w - n) false) ≡ n + (w - n) = simp length-append (omega arith) in
    let back : 64 - (64 - n) ≡ n = omega arith in
    let mask : (2 ^ 64 - 1) / 2 ^ (64 - n) ≡ 2 ^ n - 1 = ones_shr 64 (64 - n) (omega arith) ∙ ap (λ k. 2 ^ k - 1) back in
    ext_get_or false one (number_bits x n ++ replicate (w - n) false) (omega arith) (λ i h.
    let inside : i < w = omega arith in
    get_or-row_one place w v i positive inside ∙ ordered i inside ∙ narrowed i inside
    ∙ has_and x ((2 ^ 64 - 1) / 2 ^ (64 - n)) i ∙ ap (λ m. has_bit x i && has_bit m i) mask ∙ elim (cases_lt i n) [
      | inl l ↦
          let set : has_bit (2 ^ n - 1) i ≡ true = ap (λ m. eqb m 1) (bit_at_ones n i l) in
          rw set (and-true (has_bit x i) ∙ sym (get_or_append_left (number_bits x n) (replicate (w - n) false) false i (omega arith) ∙ get_or-number_bits x n i l))
      | inr l ↦
          let none : has_bit (2 ^ n - 1) i ≡ false = ap (λ m. eqb m 1) (bit_at_ones_above n i l) in
          rw none (and-false (has_bit x i) ∙ sym (get_or-append_right (number_bits x n) (replicate (w - n) false) n i false first l ∙ get_or-replicate (w - n) (i - n) false false (omega arith)))
    ])

-- a part of a word whose bits are all the same
pub part_repeated : (place : ℕ → ℕ → ℕ) (w v low high n : ℕ) (b : Bool) → 0 < w → IsPermutation w (place w) → ((p : ℕ) → p < w → has_bit v p ≡ b)
    → high ≤ w → high - low ≡ n → slice_range (row_of place w (v ∷ [])) low high ≡ replicate n b
part_repeated place w v low high n b positive lawful bits fits size =
    slice_repeated (row_of place w (v ∷ [])) w low high n b (row_repeated place w v b positive lawful bits) fits size

-- bits of which the first lies in the last of k words, or at their end, and that end in it, lie in one word
pub in_one_word : (w k from upto : ℕ) → 0 < w → w * k < from + w → upto ≤ w * k → from % w + (upto - from) ≤ w
in_one_word w k from upto positive begins ends =
    let q : ℕ = from / w in
    let parts : w * q + from % w ≡ from = div-add-mod from w in
    let rest : from % w < w = mod-lt from positive in
    elim (cases_lt k (q + 2)) [
      | inl h ↦
          let most : w * k ≤ w * (q + 1) = rw (mul_comm w k, mul_comm w (q + 1)) (mul_mono k (q + 1) w (omega arith)) in
          let next : w * (q + 1) ≡ w * q + w = omega arith in
          omega arith
      | inr h ↦
          let least : w * (q + 2) ≤ w * k = rw (mul_comm w k, mul_comm w (q + 2)) (mul_mono (q + 2) k w h) in
          let next : w * (q + 2) ≡ w * q + w + w = omega arith in
          absurd (omega arith)
    ]
