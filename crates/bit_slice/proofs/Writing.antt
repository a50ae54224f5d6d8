-- How the texts of a list of bits grow.
use Rattle.std.proofs.Common.{◌≡◌, ℕ, suc, eqb, if◌then◌else◌, map, inl, inr, ◌+◌, ◌-◌, ◌^◌, ◌<◌, ◌≤◌, Bool, false, List, [], ◌∷◌, ◌++◌, length, get_or, slice_range, refl, ap, subst, sym, ◌∙◌, arith}
use Rattle.std.proofs.lemmas.Bool.Decides.{eqb_tells}
use Rattle.std.proofs.lemmas.List.{append_assoc, ext_get_or, get_or-append_right, get_or_append_left, length_push, take_all}
use Rattle.std.specs.List.{range_with_len}
use Rattle.std.proofs.lemmas.Simd.{mask_l-lt}
use Rattle.std.proofs.lemmas.List.FromFn.{length-map-range_with_len, get_or-map-range_with_len, map-range_with_len_more}
use Rattle.bit_addressing.specs.Bits.{has_bit}
use Rattle.bit_addressing.proofs.lists.Shown.{length-run}
use Rattle.bit_addressing.specs.Row.{number_bits, number_of}
use Rattle.bit_addressing.specs.Text.{digit_of, joined, list_text}
use Rattle.bit_addressing.proofs.Chunks.{has_number}
use Rattle.bit_addressing.proofs.Runs.{slices_joined}
use Rattle.bit_addressing.specs.declared.store.BitStore as store
use Rattle.bit_addressing.specs.declared.order.BitOrder as order
use Rattle.bit_addressing.specs.Typed.{row}
use Rattle.bit_slice.proofs.Parts.{in_row, run_in_run}
use Rattle.bit_slice.specs.BitSlice.{list_of}
use Rattle.bit_slice.specs.declared.slice.BitSlice.{BitSlice}
use Rattle.bit_slice.specs.Texts.{spaced}

-- ---- the bits of a number

-- the bits of a list's number are the list
pub bits_of_number : (ms : List Bool) (n : ℕ) → length ms ≡ n → number_bits (number_of ms) n ≡ ms
unfolding number_bits
bits_of_number ms n size =
    ext_get_or false (number_bits (number_of ms) n) ms (length-map-range_with_len (has_bit (number_of ms)) 0 n ∙ sym size)
    (λ i h. get_or-map-range_with_len (has_bit (number_of ms)) 0 n i i false (omega (arith, h, length-map-range_with_len (has_bit (number_of ms)) 0 n)) (omega arith) ∙ has_number ms i)

-- the number of n bits has no more digits
pub number_below : (ms : List Bool) (n : ℕ) → length ms ≡ n → number_of ms < 2 ^ n
unfolding number_of
number_below ms n size = subst (λ k. number_of ms < 2 ^ k) size (mask_l-lt ms)

-- a number that was read is written
pub run_of_number : (zs : List Bool) (x at n : ℕ) → at + n ≤ length zs → x ≡ number_of (slice_range zs at (at + n)) → number_bits x n ≡ slice_range zs at (at + n)
run_of_number zs x at n inside is = ap (λ y. number_bits y n) is ∙ bits_of_number (slice_range zs at (at + n)) n (length-run zs at n inside)

-- one bit more of a number is its next bit
pub number_bits_more : (x n : ℕ) → number_bits x (n + 1) ≡ number_bits x n ++ has_bit x n ∷ []
unfolding number_bits
number_bits_more x n = map-range_with_len_more (has_bit x) 0 n n (omega arith)

-- one bit more in a number
pub number_bits_next : (x y n : ℕ) (b : Bool) → ((p : ℕ) → p < n + 1 → has_bit y p ≡ (if eqb p n then b else has_bit x p)) → number_bits y (n + 1) ≡ number_bits x n ++ b ∷ []
unfolding number_bits
number_bits_next x y n b change =
    let gone : n - n ≡ 0 = omega arith in
    let xs : List Bool = map (has_bit x) (range_with_len 0 n) in
    let size : length xs ≡ n = length-map-range_with_len (has_bit x) 0 n in
    let left : length (number_bits y (n + 1)) ≡ n + 1 = length-map-range_with_len (has_bit y) 0 (n + 1) in
    ext_get_or false (number_bits y (n + 1)) (xs ++ b ∷ []) (left ∙ sym (length_push xs b ∙ ap (λ k. k + 1) size))
    (λ i h.
    let below : i < n + 1 = omega arith in
    get_or-map-range_with_len (has_bit y) 0 (n + 1) i i false below (omega arith) ∙ change i below ∙ elim (eqb_tells i n) [
      | inl e ↦ rw (e.0, e.1) (sym (get_or-append_right xs (b ∷ []) n n false size (omega arith) ∙ ap (λ k. get_or (b ∷ []) k false) gone))
      | inr e ↦ rw e.0 (sym (get_or_append_left xs (b ∷ []) false i (omega (arith, e.1)) ∙ get_or-map-range_with_len (has_bit x) 0 n i i false (omega (arith, e.1)) (omega arith)))
    ])

-- ---- digits after commas

-- the text of two lists is the texts one after the other
pub spaced-append : (xs ys : List Bool) → spaced (xs ++ ys) ≡ spaced xs ++ spaced ys
spaced-append [] ys = refl
spaced-append (x ∷ xs) ys = ap (λ l. 44 ∷ 32 ∷ digit_of x ∷ l) (spaced-append xs ys)

-- one digit more
pub spaced_more : (x k : ℕ) (text : List ℕ) (d : ℕ) → text ≡ spaced (number_bits x k) → d ≡ digit_of (has_bit x k) → ((text ++ 44 ∷ []) ++ 32 ∷ []) ++ d ∷ [] ≡ spaced (number_bits x (k + 1))
spaced_more x k text d is digit =
    ap (λ t. ((t ++ 44 ∷ []) ++ 32 ∷ []) ++ d ∷ []) is
    ∙ append_assoc (spaced (number_bits x k) ++ 44 ∷ []) (32 ∷ []) (d ∷ [])
    ∙ append_assoc (spaced (number_bits x k)) (44 ∷ []) (32 ∷ d ∷ [])
    ∙ ap (λ e. spaced (number_bits x k) ++ 44 ∷ 32 ∷ e ∷ []) digit
    ∙ sym (spaced-append (number_bits x k) (has_bit x k ∷ []))
    ∙ ap spaced (sym (number_bits_more x k))

-- the text of all but the brackets
pub joined_spaced : (b : Bool) (bits : List Bool) → joined (b ∷ bits) ≡ digit_of b ∷ spaced bits
joined_spaced b [] = refl
joined_spaced b (c ∷ bits) = ap (λ l. digit_of b ∷ 44 ∷ 32 ∷ l) (joined_spaced c bits)

-- the text of two adjoining parts is that of both
pub spaced_runs : (xs : List Bool) (a b c : ℕ) → a ≤ b → b ≤ c → c ≤ length xs → spaced (slice_range xs a b) ++ spaced (slice_range xs b c) ≡ spaced (slice_range xs a c)
spaced_runs xs a b c h k l = sym (spaced-append (slice_range xs a b) (slice_range xs b c)) ∙ ap spaced (slices_joined xs a b c h k l)

-- the whole text: the bracket, the first digit, two runs of further digits, and the bracket
pub text_whole : (xs : List Bool) (d : List ℕ) (n from upto : ℕ) → 0 < length xs → d ≡ digit_of (get_or xs 0 false) ∷ [] → from ≡ n → 1 ≤ n → n ≤ upto → upto ≡ length xs
    → ((((91 ∷ []) ++ d) ++ spaced (slice_range xs 1 n)) ++ spaced (slice_range xs from upto)) ++ 93 ∷ [] ≡ list_text xs
text_whole [] d n from upto some is at one more end = absurd (omega arith)
text_whole (x ∷ ys) d n from upto some is at one more end =
    let xs : List Bool = x ∷ ys in
    let size : length xs ≡ suc (length ys) = refl in
    let beyond : spaced (slice_range xs 1 n) ++ spaced (slice_range xs from upto) ≡ spaced ys =
    ap (λ k. spaced (slice_range xs 1 n) ++ spaced (slice_range xs k upto)) at ∙ spaced_runs xs 1 n upto one more (omega arith)
    ∙ ap spaced (take_all (upto - 1) ys (omega arith)) in
    ap (λ l. (((91 ∷ l) ++ spaced (slice_range xs 1 n)) ++ spaced (slice_range xs from upto)) ++ 93 ∷ []) is
    ∙ ap (λ l. 91 ∷ digit_of x ∷ l) (ap (λ l. l ++ 93 ∷ []) beyond)
    ∙ ap (λ l. 91 ∷ l ++ 93 ∷ []) (sym (joined_spaced x ys))

-- a run of a view's list stands in the row of its words
module _ {X Y : Type 0} (W : store.Ghosts X) (P : order.Ghosts Y) (v : BitSlice X Y W P) where
  -- a chunk of the row from the head on is one of the list
  pub chunk_of_list : (from n : ℕ) → from + n ≤ v.len → slice_range (row W P v.words.now) (v.head + from) (v.head + from + n) ≡ slice_range (list_of v) from (from + n)
  chunk_of_list from n within =
      let bits = row W P v.words.now in
      let fits : v.head + v.len ≤ length bits = in_row W P v.words.now (v.head + v.len) v.fits.room in
      let last : v.head + (from + n) ≡ v.head + from + n = omega arith in
      ap (slice_range bits (v.head + from)) (sym last) ∙ sym (run_in_run bits v.head (v.head + v.len) from (from + n) (omega arith) fits (omega arith))
