-- Runs of bits as numbers.
use Rattle.std.proofs.Common.{◌≡◌, ℕ, ◌+◌, ◌-◌, ◌*◌, ◌/◌, ◌%◌, ◌^◌, ◌<◌, ◌≤◌, Bool, true, false, ◌&&◌, cond, eqb, List, [], ◌∷◌, map, length, get_or, drop, slice_range, refl, sym, ◌∙◌, ap, subst, inl, inr, arith, bit_or, bit_and, lit<}
use Rattle.std.proofs.Math.Bool.{and-true, and-false, or-false}
use Rattle.std.proofs.lemmas.Bool.{cases_lt}
use Rattle.std.proofs.lemmas.List.{ext_get_or, take_all, get_or_past, get_or-take, get_or-drop, length-take, length-drop}
use Rattle.std.proofs.lemmas.Nat.{div-add-mod', div-mul-add, mod-mul-add, mul-add-lt}
use Rattle.std.proofs.lemmas.Nat.Bits.{bit_at_ones, bit_at_ones_above, ones_shr}
use Rattle.std.proofs.Math.Nat.{mod-lt}
use Rattle.std.proofs.Math.Pow.{pow_mono}
use Rattle.std.specs.Int.Bits.{mask_lt}
use Rattle.std.proofs.lemmas.Simd.{bit_mask_l, mask_l-lt}
use Rattle.bit_addressing.specs.Bits.{has_bit}
use Rattle.std.proofs.lemmas.List.FromFn.{length-map-range_with_len, get_or-map-range_with_len}
use Rattle.bit_addressing.specs.Row.{number_bits, row_of, number_of}
use Rattle.bit_addressing.proofs.Words.{has_and, has_or, has_above, has_shr_low, has_shl_low, has_shl_high, same_word}
use Rattle.bit_addressing.proofs.Rows.{length-row_of, get_or-row_one, word_below}
use Rattle.bit_addressing.proofs.Typed.{row_read}
use Rattle.bit_addressing.proofs.lists.Shown.{get_or-run, length-run}
use Rattle.bit_addressing.proofs.lists.Sized.{one_more_word}

one_if : (b : Bool) → eqb (cond b 1 0) 1 ≡ b
one_if true = refl
one_if false = refl

-- bit i of the number of a list is its item i
pub has_number : (ms : List Bool) (i : ℕ) → has_bit (number_of ms) i ≡ get_or ms i false
unfolding number_of
has_number ms i = ap (λ m. eqb m 1) (bit_mask_l ms i) ∙ one_if (get_or ms i false)

-- at most 64 bits are a number below 2^64
pub number-lt : (ms : List Bool) → length ms ≤ 64 → number_of ms < 2 ^ 64
unfolding number_of
number-lt ms h = omega (arith, mask_l-lt ms, pow_mono {i = length ms} {j = 64} h)

-- a number is known by its bits
pub number_from_bits : (x : ℕ) (ms : List Bool) → x < 2 ^ 64 → length ms ≤ 64 → ((i : ℕ) → i < 64 → has_bit x i ≡ get_or ms i false) → x ≡ number_of ms
number_from_bits x ms h k same = same_word 64 x (number_of ms) h (number-lt ms k) (λ p q. same p q ∙ sym (has_number ms p))

-- the number of a word, whose bits were put in order and then widened
pub word_is : (place : ℕ → ℕ → ℕ) (w v mid x : ℕ) → 0 < w → w ≤ 64 → x < 2 ^ 64 → ((i : ℕ) → i < w → has_bit mid i ≡ has_bit v (place w i)) → ((p : ℕ) → p < w → has_bit x p ≡ has_bit mid p) → ((p : ℕ) → w ≤ p → has_bit x p ≡ false) → x ≡ number_of (row_of place w (v ∷ []))
word_is place w v mid x positive small fits ordered low high =
    let one : List Bool = row_of place w (v ∷ []) in
    let size : length one ≡ w * 1 = length-row_of place w (v ∷ []) in
    number_from_bits x one fits (omega arith) (λ i h. elim (cases_lt i w) [
      | inl l ↦ low i l ∙ ordered i l ∙ sym (get_or-row_one place w v i positive l)
      | inr l ↦ high i l ∙ sym (get_or_past one i false (omega arith))
    ])

-- ---- a run read word by word

-- the bits of x below `got` are those of the list from `at` on, and its others are false
pub record IsRead (ms : List Bool) (at got x : ℕ) : Type 0 where
  pub shown : (i : ℕ) → i < got → i < 64 → has_bit x i ≡ get_or ms (at + i) false
  pub clear : (i : ℕ) → got ≤ i → has_bit x i ≡ false

-- the first n of them
pub read_done : (ms : List Bool) (at n got x : ℕ) → IsRead ms at got x → 0 < n → n ≤ got → n ≤ 64 → at + n ≤ length ms → bit_and x ((2 ^ 64 - 1) / 2 ^ (64 - n)) ≡ number_of (slice_range ms at (at + n))
read_done ms at n got x so_far some enough few fits =
    let back : 64 - (64 - n) ≡ n = omega arith in
    let mask : (2 ^ 64 - 1) / 2 ^ (64 - n) ≡ 2 ^ n - 1 = ones_shr 64 (64 - n) (omega arith) ∙ ap (λ k. 2 ^ k - 1) back in
    let size : length (slice_range ms at (at + n)) ≡ n = simp (length-take, length-drop) (omega arith) in
    number_from_bits (bit_and x ((2 ^ 64 - 1) / 2 ^ (64 - n))) (slice_range ms at (at + n))
    (rw mask (let low = mask_lt x n in let most : 2 ^ n ≤ 2 ^ 64 = pow_mono few in omega arith))
    (omega arith)
    (λ i h. has_and x ((2 ^ 64 - 1) / 2 ^ (64 - n)) i ∙ ap (λ m. has_bit x i && has_bit m i) mask ∙ elim (cases_lt i n) [
      | inl l ↦
          let one : has_bit (2 ^ n - 1) i ≡ true = ap (λ m. eqb m 1) (bit_at_ones n i l) in
          rw one (and-true (has_bit x i) ∙ so_far.shown i (omega arith) h
          ∙ sym (get_or-take (at + n - at) (drop at ms) i false (omega arith) ∙ get_or-drop at ms i false))
      | inr l ↦
          let none : has_bit (2 ^ n - 1) i ≡ false = ap (λ m. eqb m 1) (bit_at_ones_above n i l) in
          rw none (and-false (has_bit x i) ∙ sym (get_or_past (slice_range ms at (at + n)) i false (omega arith)))
    ])

-- 64 bits read at once
pub read_block : (ms : List Bool) (at x : ℕ) → x ≡ number_of (slice_range ms at (at + 64)) → IsRead ms at 64 x
read_block ms at x is =
    let run : List Bool = slice_range ms at (at + 64) in
    let size : length run ≤ 64 = simp (length-take, length-drop) (omega arith) in
    record {
      shown = λ i h q. ap (λ n. has_bit n i) is ∙ has_number run i ∙ get_or-run ms at 64 i h;
      clear = λ i h. ap (λ n. has_bit n i) is ∙ has_number run i ∙ get_or_past run i false (omega arith);
    }

module _ {X : Type 0} (value : X → ℕ) (place : ℕ → ℕ → ℕ) (w : ℕ) (positive : 0 < w) (ws : List X) where
  -- the number of word k has the bits of the row from k * w on
  word_shown : (k i y : ℕ) (word : X) → k < length ws → i < w → word ≡ get_or ws k word → y ≡ number_of (row_of place w (value word ∷ [])) → has_bit y i ≡ get_or (row_of place w (map value ws)) (k * w + i) false
  word_shown k i y word here low read is =
      let below : k * w + i < w * length ws = mul-add-lt k w i (length ws) here low in
      let place_is : place w i ≡ place w ((k * w + i) % w) = ap (place w) (sym (mod-mul-add k w i low)) in
      row_read value place w ws (k * w + i) k (place w i) word (has_bit y i) positive below (sym (div-mul-add k w i low)) place_is read
      (ap (λ n. has_bit n i) is ∙ has_number (row_of place w (value word ∷ [])) i ∙ get_or-row_one place w (value word) i positive low)

  word_clear : (i y : ℕ) (word : X) → w ≤ i → y ≡ number_of (row_of place w (value word ∷ [])) → has_bit y i ≡ false
  word_clear i y word above is =
      let one : List Bool = row_of place w (value word ∷ []) in
      let size : length one ≡ w * 1 = length-row_of place w (value word ∷ []) in
      ap (λ n. has_bit n i) is ∙ has_number one i ∙ get_or_past one i false (omega arith)

  -- a first word moved down by `skip` has read the bits from `at` up to the word's end
  pub read_first : (at k skip y : ℕ) (word : X) → at < w * length ws → k ≡ at / w → skip ≡ at % w → word ≡ get_or ws k word → y ≡ number_of (row_of place w (value word ∷ [])) → IsRead (row_of place w (map value ws)) at (w - skip) (y / 2 ^ skip)
  read_first at k skip y word below ek es read is =
      let here : k < length ws = subst (λ n. n < length ws) (sym ek) (word_below w at (length ws) positive below) in
      let split : k * w + skip ≡ at = rw (ek, es) (div-add-mod' at w) in
      record {
        shown = λ i h q.
            let next : k * w + (i + skip) ≡ at + i = omega arith in
            has_shr_low y skip i ∙ word_shown k (i + skip) y word here (omega arith) read is ∙ ap (λ n. get_or (row_of place w (map value ws)) n false) next;
        clear = λ i h. has_shr_low y skip i ∙ word_clear (i + skip) y word (omega arith) is;
      }

  -- the next word, put in above the bits already read, has read a word's bits more
  pub read_next : (at k got x y : ℕ) (word : X) → IsRead (row_of place w (map value ws)) at got x → at + got ≡ k * w → got < 64 → k < length ws → word ≡ get_or ws k word → y ≡ number_of (row_of place w (value word ∷ [])) → IsRead (row_of place w (map value ws)) at (got + w) (bit_or x (y * 2 ^ got % 2 ^ 64))
  read_next at k got x y word so_far split low here read is = record {
    shown = λ i h q. has_or x (y * 2 ^ got % 2 ^ 64) i ∙ elim (cases_lt i got) [
      | inl l ↦ rw (has_shl_low 64 y got i l low) (or-false (has_bit x i) ∙ so_far.shown i l q)
      | inr l ↦
          let next : k * w + (i - got) ≡ at + i = omega arith in
          rw (so_far.clear i l, has_shl_high 64 y got i l q) (word_shown k (i - got) y word here (omega arith) read is ∙ ap (λ n. get_or (row_of place w (map value ws)) n false) next)
    ];
    clear = λ i h. has_or x (y * 2 ^ got % 2 ^ 64) i ∙ rw (so_far.clear i (omega arith)) (elim (cases_lt i 64) [
      | inl q ↦ has_shl_high 64 y got i (omega arith) q ∙ word_clear (i - got) y word (omega arith) is
      | inr q ↦ has_above (y * 2 ^ got % 2 ^ 64) 64 i (mod-lt (y * 2 ^ got) (lit< tt)) q
    ]);
  }

-- no bits are the number 0
pub no_bits : (ms : List Bool) (at n : ℕ) → n ≡ 0 → 0 ≡ number_of (slice_range ms at (at + n))
unfolding number_of
no_bits ms at n none = let e : at + n - at ≡ 0 = omega arith in rw e refl

-- the first word read from ends where word k does
pub reach_first : (w at k skip back : ℕ) → 0 < w → k ≡ at / w → skip ≡ at % w → back ≡ w → at + (back - skip) ≡ (k + 1) * w
reach_first w at k skip back positive ek es is =
    let split : k * w + skip ≡ at = rw (ek, es) (div-add-mod' at w) in
    let low : skip < w = subst (λ n. n < w) (sym es) (mod-lt at positive) in
    let more = one_more_word k w in
    omega arith

-- the next word read from ends where word k + 1 does
pub reach_next : (w at got k more : ℕ) → at + got ≡ (k + 1) * w → more ≡ w → at + (got + more) ≡ (k + 1 + 1) * w
reach_next w at got k more so_far is = let next = one_more_word (k + 1) w in omega arith

-- ---- a run put into a word

-- a word whose bits are a number's, moved up by `low`, has at `low` the bits that the number was read from
pub run_placed : (place : ℕ → ℕ → ℕ) (w v made x low from n : ℕ) (zs : List Bool) → 0 < w → w ≤ 64 → low + n ≤ w → from + n ≤ length zs → x ≡ number_of (slice_range zs from (from + n))
    → ((p : ℕ) → p < w → has_bit made p ≡ has_bit (x * 2 ^ low % 2 ^ 64) p) → ((i : ℕ) → i < w → has_bit v (place w i) ≡ has_bit made i)
    → slice_range (row_of place w (v ∷ [])) low (low + n) ≡ slice_range zs from (from + n)
run_placed place w v made x low from n zs positive small within fits is narrowed ordered =
    let one : List Bool = row_of place w (v ∷ []) in
    let whole : length one ≡ w * 1 = length-row_of place w (v ∷ []) in
    let a : length (slice_range one low (low + n)) ≡ n = simp (length-take, length-drop) (omega arith) in
    let b : length (slice_range zs from (from + n)) ≡ n = simp (length-take, length-drop) (omega arith) in
    ext_get_or false (slice_range one low (low + n)) (slice_range zs from (from + n)) (a ∙ sym b) (λ i h.
    let inside : i < n = omega arith in
    let back : low + i - low ≡ i = omega arith in
    get_or-take (low + n - low) (drop low one) i false (omega arith) ∙ get_or-drop low one i false ∙ get_or-row_one place w v (low + i) positive (omega arith)
    ∙ ordered (low + i) (omega arith) ∙ narrowed (low + i) (omega arith) ∙ has_shl_high 64 x low (low + i) (omega arith) (omega arith)
    ∙ ap (has_bit x) back ∙ ap (λ m. has_bit m i) is ∙ has_number (slice_range zs from (from + n)) i)

-- the same run, its ends written otherwise
pub part_is : (one zs : List Bool) (low high n a from upto : ℕ) → high ≡ low + n → from ≡ a → upto ≡ a + n → slice_range one low (low + n) ≡ slice_range zs a (a + n) → slice_range one low high ≡ slice_range zs from upto
part_is one zs low high n a from upto eh ea eu is = rw (eh, ea, eu) is

-- a whole word written from w bits of a list has them as its row
pub whole_is : (place : ℕ → ℕ → ℕ) (w v : ℕ) (zs : List Bool) (n a from upto : ℕ) → n ≡ w → from ≡ a → upto ≡ a + w → slice_range (row_of place w (v ∷ [])) 0 (0 + n) ≡ slice_range zs a (a + n) → row_of place w (v ∷ []) ≡ slice_range zs from upto
whole_is place w v zs n a from upto en ea eu is =
    let one : List Bool = row_of place w (v ∷ []) in
    let size : length one ≡ w * 1 = length-row_of place w (v ∷ []) in
    sym (take_all (0 + n - 0) one (omega arith)) ∙ is ∙ rw (ea, eu, en) refl

-- the bits of a word of 64 bits from its lowest place
pub lowest_bits : (x n : ℕ) → n ≤ 64 → slice_range (row_of (λ w i. i) 64 (x ∷ [])) 0 (0 + n) ≡ number_bits x n
unfolding number_bits
lowest_bits x n few =
    let one : List Bool = row_of (λ w i. i) 64 (x ∷ []) in
    let size : length one ≡ 64 * 1 = length-row_of (λ w i. i) 64 (x ∷ []) in
    let left : length (slice_range one 0 (0 + n)) ≡ n = length-run one 0 n (omega arith) in
    ext_get_or false (slice_range one 0 (0 + n)) (number_bits x n) (left ∙ sym (length-map-range_with_len (has_bit x) 0 n))
    (λ i h.
    let below : i < n = omega arith in
    get_or-run one 0 n i below ∙ get_or-row_one (λ w i. i) 64 x (0 + i) (omega arith) (omega arith) ∙ ap (has_bit x) (omega arith) ∙ sym (get_or-map-range_with_len (has_bit x) 0 n i i false below (omega arith)))
