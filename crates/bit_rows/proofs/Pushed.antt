-- Blocks of 64 bits appended to words, and cut to the bits that are wanted.
use Rattle.std.proofs.Common.{◌≡◌, ℕ, ◌+◌, ◌-◌, ◌*◌, ◌/◌, ◌^◌, ◌<◌, ◌≤◌, Bool, true, false, ◌&&◌, eqb, List, [], ◌∷◌, ◌++◌, length, replicate, take, get_or, slice_range, bit_and, append_assoc, refl, sym, ◌∙◌, ap, inl, inr, arith}
use Rattle.std.proofs.Common.{mul_comm, rules}
use Rattle.std.proofs.Math.Bool.{and-true, and-false}
use Rattle.std.proofs.Math.Seq.{take-append-add}
use Rattle.std.proofs.lemmas.Bool.{cases_lt}
use Rattle.std.proofs.lemmas.List.{ext_get_or, places, same_lists, length-append, length-replicate, take-replicate, get_or_append_left, get_or-append_right, get_or-replicate}
use Rattle.std.proofs.lemmas.Nat.Bits.{bit_at_ones, bit_at_ones_above, ones_shr}
use Rattle.bit_addressing.specs.Bits.{has_bit, IsWidth}
use Rattle.bit_addressing.specs.Row.{number_bits, number_of, put, row_bit, row_of, sized, words_for}
use Rattle.bit_addressing.proofs.Chunks.{has_number}
use Rattle.bit_addressing.proofs.Packs.{pack_fills}
use Rattle.bit_addressing.proofs.Words.{has_and}
use Rattle.bit_addressing.proofs.Runs.{mul_mono, slices_joined}
use Rattle.bit_addressing.proofs.Rows.{length-row_of, get_or-row_of, get_or-row_one, row_append, row_zeros, width_positive}
use Rattle.bit_addressing.proofs.lists.Shown.{get_or-run, length-between, length-run}
use Rattle.bit_addressing.proofs.lists.Sized.{right_sum, sized_cut, sized_more, words_for_le}
use Rattle.bit_rows.proofs.Binary.{get_or-number_bits, length-number_bits}
use Rattle.bit_rows.proofs.Grown.{put_appended, put_over}

-- a list as its first items, where these are all
pub all_of : (n : ℕ) (xs : List Bool) → length xs ≡ n → slice_range xs 0 n ≡ xs
all_of n xs size = same_lists _ _ (search (rules, places)) (λ i e below. grind (arith, places))

-- one more word of a block
pub one_more : (old now b word : List Bool) (i w : ℕ) → now ≡ old ++ slice_range b 0 (i * w) → word ≡ slice_range b (i * w) (i * w + w) → (i + 1) * w ≤ length b → now ++ word ≡ old ++ slice_range b 0 ((i + 1) * w)
one_more old now b word i w so_far is room =
    let next : i * w + w ≡ (i + 1) * w = omega arith in
    ap (λ l. l ++ word) so_far ∙ append_assoc old (slice_range b 0 (i * w)) word
    ∙ ap (λ l. old ++ l) (ap (λ l. slice_range b 0 (i * w) ++ l) is ∙ slices_joined b 0 (i * w) (i * w + w) (omega arith) (omega arith) (omega arith) ∙ ap (slice_range b 0) next)

-- a list with false items appended, and cut to the words for some bits
pub cut_after : (w : ℕ) (xs ys : List Bool) (k upto : ℕ) → length xs + length ys ≤ w * words_for w upto → w * words_for w upto ≤ length xs + length ys + k → sized w (xs ++ ys ++ replicate k false) upto ≡ xs ++ ys ++ replicate (w * words_for w upto - length xs - length ys) false
cut_after w xs ys k upto most least =
    let b : ℕ = w * words_for w upto - length xs - length ys in
    let both : length (xs ++ ys) ≡ length xs + length ys = length-append xs ys in
    let whole : length (xs ++ ys ++ replicate k false) ≡ length (xs ++ ys) + k = length-append (xs ++ ys) (replicate k false) ∙ ap (λ n. length (xs ++ ys) + n) (length-replicate k false) in
    let parts : w * words_for w upto ≡ length (xs ++ ys) + b = omega (arith, both) in
    sym (sized_cut w (xs ++ ys ++ replicate k false) upto (omega (arith, whole, both)))
    ∙ ap (λ n. take n (xs ++ ys ++ replicate k false)) parts ∙ take-append-add (xs ++ ys) (replicate k false) b
    ∙ ap (λ l. xs ++ ys ++ l) (take-replicate b k false (omega arith))

-- bits of a block after a row whose words are full
pub block_appended : (w : ℕ) (xs ys : List Bool) (k end upto : ℕ) → end ≡ length xs → length xs + length ys ≤ w * words_for w upto → w * words_for w upto ≤ length xs + length ys + k → sized w (xs ++ ys ++ replicate k false) upto ≡ put (sized w xs upto) end ys
block_appended w xs ys k end upto at most least =
    let more : ℕ = w * words_for w upto - length xs in
    cut_after w xs ys k upto most least ∙ sym (put_appended xs ys more end at (omega arith)) ∙ ap (λ r. put r end ys) (sized_more w xs upto more (omega arith))

-- bits in the last word, and those of a block after it
pub block_over : (w : ℕ) (xs ys zs : List Bool) (k end upto : ℕ) → end + length ys ≡ length xs → length xs + length zs ≤ w * words_for w upto → w * words_for w upto ≤ length xs + length zs + k → put (sized w (xs ++ zs ++ replicate k false) upto) end ys ≡ put (sized w xs upto) end (ys ++ zs)
block_over w xs ys zs k end upto at most least =
    let more : ℕ = w * words_for w upto - length xs in
    ap (λ r. put r end ys) (cut_after w xs zs k upto most least) ∙ put_over xs ys zs end more at (omega arith) ∙ ap (λ r. put r end (ys ++ zs)) (sized_more w xs upto more (omega arith))

-- the first bits of the number of a list
pub first_of_number : (b : List Bool) (n : ℕ) → n ≤ length b → number_bits (number_of b) n ≡ slice_range b 0 (0 + n)
first_of_number b n fits =
    let left = length-number_bits (number_of b) n in
    let right = length-run b 0 n (omega arith) in
    ext_get_or false (number_bits (number_of b) n) (slice_range b 0 (0 + n)) (left ∙ sym right) (λ i h.
    let below : i < n = omega arith in
    let here : 0 + i ≡ i = omega arith in
    get_or-number_bits (number_of b) n i below ∙ has_number b i ∙ sym (get_or-run b 0 n i below ∙ ap (λ k. get_or b k false) here))

-- a number of 64 bits under a mask of its n lowest
module _ (x n : ℕ) (few : n ≤ 64) where
  mask : (2 ^ 64 - 1) / 2 ^ (64 - n) ≡ 2 ^ n - 1
  mask = let back : 64 - (64 - n) ≡ n = omega arith in ones_shr 64 (64 - n) (omega arith) ∙ ap (λ k. 2 ^ k - 1) back

  kept_bit : (i : ℕ) → i < n → has_bit (bit_and x ((2 ^ 64 - 1) / 2 ^ (64 - n))) i ≡ has_bit x i
  kept_bit i h =
      let set : has_bit (2 ^ n - 1) i ≡ true = ap (λ m. eqb m 1) (bit_at_ones n i h) in
      has_and x ((2 ^ 64 - 1) / 2 ^ (64 - n)) i ∙ ap (λ m. has_bit x i && has_bit m i) mask ∙ ap (λ b. has_bit x i && b) set ∙ and-true (has_bit x i)

  cut_bit : (i : ℕ) → n ≤ i → has_bit (bit_and x ((2 ^ 64 - 1) / 2 ^ (64 - n))) i ≡ false
  cut_bit i h =
      let none : has_bit (2 ^ n - 1) i ≡ false = ap (λ m. eqb m 1) (bit_at_ones_above n i h) in
      has_and x ((2 ^ 64 - 1) / 2 ^ (64 - n)) i ∙ ap (λ m. has_bit x i && has_bit m i) mask ∙ ap (λ b. has_bit x i && b) none ∙ and-false (has_bit x i)

  -- a block of it has its lowest bits first, and no others
  pub masked_front : (place : ℕ → ℕ → ℕ) (block : ℕ) → ((i : ℕ) → i < 64 → has_bit block (place 64 i) ≡ has_bit (bit_and x ((2 ^ 64 - 1) / 2 ^ (64 - n))) i) → slice_range (row_of place 64 (block ∷ [])) 0 (0 + n) ≡ number_bits x n
  masked_front place block ordered =
      let b : List Bool = row_of place 64 (block ∷ []) in
      let all : length b ≡ 64 * 1 = length-row_of place 64 (block ∷ []) in
      let left = length-run b 0 n (omega arith) in
      ext_get_or false (slice_range b 0 (0 + n)) (number_bits x n) (left ∙ sym (length-number_bits x n)) (λ i h.
      let below : i < n = omega arith in
      let here : 0 + i ≡ i = omega arith in
      get_or-run b 0 n i below ∙ ap (λ k. get_or b k false) here ∙ get_or-row_one place 64 block i (omega arith) (omega arith) ∙ ordered i (omega arith) ∙ kept_bit i below ∙ sym (get_or-number_bits x n i below))

  pub masked_rest : (place : ℕ → ℕ → ℕ) (block : ℕ) → ((i : ℕ) → i < 64 → has_bit block (place 64 i) ≡ has_bit (bit_and x ((2 ^ 64 - 1) / 2 ^ (64 - n))) i) → (i : ℕ) → n ≤ i → i < 64 → has_bit block (place 64 i) ≡ false
  masked_rest place block ordered i after h = ordered i h ∙ cut_bit i after

-- words with a block of 64 bits after them have that many bits more
pub block_more : (w count : ℕ) → IsWidth w → w * (count + 64 / w) ≡ w * count + 64
block_more w count width =
    let fills = pack_fills w width in
    mul_comm w (count + 64 / w) ∙ right_sum count (64 / w) w ∙ ap (λ m. m + 64 / w * w) (mul_comm count w) ∙ ap (λ m. w * count + m) fills

-- such words have room for up to 64 bits more, and as many suffice
pub within_block : (w size count n end : ℕ) → IsWidth w → end ≤ w * count → n ≤ 64 → size ≡ count + 64 / w → end + n ≤ w * size
within_block w size count n end width full few is =
    let sum = block_more w count width in
    rw is (omega (arith, sum))

pub words_within_block : (w count n end : ℕ) → IsWidth w → end ≤ w * count → n ≤ 64 → w * words_for w (end + n) ≤ w * count + 64
words_within_block w count n end width full few =
    let positive = width_positive w width in
    let sum = block_more w count width in
    let most = words_for_le w (end + n) (count + 64 / w) positive (within_block w (count + 64 / w) count n end width full few refl) in
    let times = mul_mono (words_for w (end + n)) (count + 64 / w) w most in
    let left = mul_comm w (words_for w (end + n)) in
    let right = mul_comm w (count + 64 / w) in
    omega (arith, sum)

-- the bits of blocks, by the order that they lie in
module _ (place : ℕ → ℕ → ℕ) where
  abbrev block_bits : ℕ → List Bool
  block_bits v = row_of place 64 (v ∷ [])

  long : (v : ℕ) → length (block_bits v) ≡ 64
  long v = length-row_of place 64 (v ∷ [])

  zeros : block_bits 0 ≡ replicate 64 false
  zeros = row_zeros place 64 1 (omega arith)

  -- a block that begins with the bits of another, and no others
  pub some_bits : (v n : ℕ) → n ≤ 64 → ((i : ℕ) → n ≤ i → i < 64 → has_bit v (place 64 i) ≡ false) → row_of place 64 (v ∷ []) ≡ slice_range (row_of place 64 (v ∷ [])) 0 (0 + n) ++ replicate (64 - n) false
  some_bits v n few rest =
      let b = block_bits v in
      let all = long v in
      let first : length (slice_range b 0 (0 + n)) ≡ n = length-run b 0 n (omega arith) in
      let after : length (replicate (64 - n) false) ≡ 64 - n = length-replicate (64 - n) false in
      let both = length-append (slice_range b 0 (0 + n)) (replicate (64 - n) false) in
      ext_get_or false b (slice_range b 0 (0 + n) ++ replicate (64 - n) false) (omega arith) (λ i h.
      let here : 0 + i ≡ i = omega arith in
      elim (cases_lt i n) [
        | inl l ↦ sym (get_or_append_left (slice_range b 0 (0 + n)) (replicate (64 - n) false) false i (omega arith) ∙ get_or-run b 0 n i l ∙ ap (λ k. get_or b k false) here)
        | inr l ↦
            get_or-row_one place 64 v i (omega arith) (omega arith) ∙ rest i l (omega arith)
            ∙ sym (get_or-append_right (slice_range b 0 (0 + n)) (replicate (64 - n) false) n i false first l ∙ get_or-replicate (64 - n) (i - n) false false (omega arith))
      ])

  -- the bits of a block that was moved up are its first
  pub moved_run : (v up low n : ℕ) → low + n ≤ 64 → ((i : ℕ) → i + low < 64 → has_bit up (place 64 (low + i)) ≡ has_bit v (place 64 i)) → slice_range (row_of place 64 (up ∷ [])) low (low + n) ≡ slice_range (row_of place 64 (v ∷ [])) 0 (0 + n)
  moved_run v up low n within moved =
      let one = long v in
      let other = long up in
      let left = length-run (block_bits up) low n (omega arith) in
      let right = length-run (block_bits v) 0 n (omega arith) in
      ext_get_or false (slice_range (block_bits up) low (low + n)) (slice_range (block_bits v) 0 (0 + n)) (left ∙ sym right) (λ i h.
      let below : i < n = omega arith in
      let here : 0 + i ≡ i = omega arith in
      get_or-run (block_bits up) low n i below ∙ get_or-row_one place 64 up (low + i) (omega arith) (omega arith) ∙ moved i (omega arith)
      ∙ sym (get_or-run (block_bits v) 0 n i below ∙ ap (λ k. get_or (block_bits v) k false) here ∙ get_or-row_one place 64 v i (omega arith) (omega arith)))

  -- a block after words of zero, and before them
  pub after_zeros : (v i : ℕ) → i < 64 → row_bit place 64 (0 ∷ v ∷ []) (64 + i) ≡ has_bit v (place 64 i)
  after_zeros v i h =
      let none : length (block_bits 0) ≡ 64 = long 0 in
      let back : 64 + i - 64 ≡ i = omega arith in
      sym (get_or-row_of place 64 (0 ∷ v ∷ []) (64 + i) (omega arith)) ∙ ap (λ l. get_or l (64 + i) false) (row_append place 64 (0 ∷ []) (v ∷ []) (omega arith))
      ∙ get_or-append_right (block_bits 0) (block_bits v) 64 (64 + i) false none (omega arith) ∙ ap (λ n. get_or (block_bits v) n false) back ∙ get_or-row_one place 64 v i (omega arith) h

  before_zeros : (v i : ℕ) → i < 128 → row_bit place 64 (v ∷ 0 ∷ []) i ≡ get_or (block_bits v ++ replicate 64 false) i false
  before_zeros v i h =
      sym (get_or-row_of place 64 (v ∷ 0 ∷ []) i (omega arith)) ∙ ap (λ l. get_or l i false) (row_append place 64 (v ∷ []) (0 ∷ []) (omega arith) ∙ ap (λ l. block_bits v ++ l) zeros)

  -- what is left of a block's bits after the first of them, and false bits
  pub left_bits : (v down from n : ℕ) → from ≤ n → n ≤ 64 → ((i : ℕ) → n ≤ i → i < 64 → has_bit v (place 64 i) ≡ false) → ((i : ℕ) → i < 64 → has_bit down (place 64 i) ≡ row_bit place 64 (v ∷ 0 ∷ []) (from + i)) → row_of place 64 (down ∷ []) ≡ slice_range (row_of place 64 (v ∷ [])) from n ++ replicate (64 - (n - from)) false
  left_bits v down from n begins few rest window =
      let b = block_bits v in
      let all = long v in
      let got = long down in
      let count : ℕ = n - from in
      let upto : from + count ≡ n = omega arith in
      let first : length (slice_range b from n) ≡ count = length-between b from n (omega arith) in
      let after : length (replicate (64 - count) false) ≡ 64 - count = length-replicate (64 - count) false in
      let both = length-append (slice_range b from n) (replicate (64 - count) false) in
      ext_get_or false (block_bits down) (slice_range b from n ++ replicate (64 - count) false) (omega arith) (λ i h.
      get_or-row_one place 64 down i (omega arith) (omega arith) ∙ window i (omega arith) ∙ before_zeros v (from + i) (omega arith) ∙ elim (cases_lt i count) [
        | inl l ↦
            get_or_append_left b (replicate 64 false) false (from + i) (omega arith)
            ∙ sym (get_or_append_left (slice_range b from n) (replicate (64 - count) false) false i (omega arith) ∙ ap (λ u. get_or (slice_range b from u) i false) (sym upto) ∙ get_or-run b from count i l)
        | inr l ↦
            (elim (cases_lt (from + i) 64) [
              | inl m ↦ get_or_append_left b (replicate 64 false) false (from + i) (omega arith) ∙ get_or-row_one place 64 v (from + i) (omega arith) m ∙ rest (from + i) (omega arith) m
              | inr m ↦ get_or-append_right b (replicate 64 false) 64 (from + i) false all m ∙ get_or-replicate 64 (from + i - 64) false false (omega arith)
            ])
            ∙ sym (get_or-append_right (slice_range b from n) (replicate (64 - count) false) count i false first l ∙ get_or-replicate (64 - count) (i - count) false false (omega arith))
      ])
