-- The last bits of a row of narrow words: two runs that were read as one, and words put in order after they were read.
use Rattle.std.proofs.Common.{◌≡◌, ℕ, ◌+◌, ◌-◌, ◌*◌, ◌/◌, ◌%◌, ◌^◌, ◌<◌, ◌≤◌, Bool, true, false, ◌&&◌, ◌||◌, eqb, List, length, get_or, slice_range, refl, sym, ◌∙◌, ap, inl, inr, arith, bit_and, bit_or, lit<, mul_comm}
use Rattle.std.proofs.Math.Bool.{and-false, and-true, or-false}
use Rattle.std.proofs.Math.Nat.{mod-lt}
use Rattle.std.proofs.Math.Pow.{pow_mono}
use Rattle.std.specs.Int.Bits.{mask_lt}
use Rattle.std.proofs.lemmas.Nat.Bits.{bit_at_ones, bit_at_ones_above, ones_shr}
use Rattle.std.proofs.lemmas.Bool.{cases_lt}
use Rattle.std.proofs.lemmas.List.{get_or_past}
use Rattle.std.proofs.lemmas.Nat.{div-add-mod', div-mul-add, mod-mul-add, mul-add-lt}
use Rattle.bit_addressing.specs.Bits.{has_bit, IsWidth}
use Rattle.bit_addressing.specs.Order.{IsPermutation}
use Rattle.bit_addressing.specs.Row.{number_of, row_of}
use Rattle.bit_addressing.proofs.Chunks.{IsRead, has_number, number_from_bits}
use Rattle.bit_addressing.proofs.Packs.{pack_fills, unpacked_place, word_inside}
use Rattle.bit_addressing.proofs.Rows.{get_or-row_of, width_positive}
use Rattle.bit_addressing.proofs.Runs.{inside_words, mul_mono}
use Rattle.bit_addressing.proofs.Words.{has_above, has_and, has_or, has_shl_high, has_shl_low, has_shr_low}
use Rattle.bit_addressing.proofs.lists.Shown.{get_or-run, length-run}
use Rattle.bit_addressing.proofs.lists.Sized.{one_more_word, right_sum}

-- the number of a run that was read
pub read_is : (ms : List Bool) (at n x : ℕ) → IsRead ms at n x → n ≤ 64 → x < 2 ^ 64 → at + n ≤ length ms → x ≡ number_of (slice_range ms at (at + n))
read_is ms at n x read few small fits =
    let size : length (slice_range ms at (at + n)) ≡ n = length-run ms at n fits in
    number_from_bits x (slice_range ms at (at + n)) small (omega arith) (λ i h. elim (cases_lt i n) [
      | inl l ↦ read.shown i l h ∙ sym (get_or-run ms at n i l)
      | inr l ↦ read.clear i l ∙ sym (get_or_past (slice_range ms at (at + n)) i false (omega arith))
    ])

-- a run whose number is known was read
pub run_read : (ms : List Bool) (at n x : ℕ) → at + n ≤ length ms → x ≡ number_of (slice_range ms at (at + n)) → IsRead ms at n x
run_read ms at n x fits is =
    let run : List Bool = slice_range ms at (at + n) in
    let size : length run ≡ n = length-run ms at n fits in
    record {
      shown = λ i h q. ap (λ m. has_bit m i) is ∙ has_number run i ∙ get_or-run ms at n i h;
      clear = λ i h. ap (λ m. has_bit m i) is ∙ has_number run i ∙ get_or_past run i false (omega arith);
    }

-- a run that was read, from a later bit on
pub read_further : (ms : List Bool) (a at got skip x : ℕ) → at ≡ a + skip → got ≤ 64 → IsRead ms a got x → IsRead ms at (got - skip) (x / 2 ^ skip)
read_further ms a at got skip x is few read = record {
  shown = λ i h q.
      let next : a + (i + skip) ≡ at + i = omega arith in
      has_shr_low x skip i ∙ read.shown (i + skip) (omega arith) (omega arith) ∙ ap (λ n. get_or ms n false) next;
  clear = λ i h. has_shr_low x skip i ∙ read.clear (i + skip) (omega arith);
}

or_same : (b : Bool) → (b || b) ≡ b
or_same true = refl
or_same false = refl

-- two runs that were read, the second from `d` bits on, are one: where both have a bit it is the same
pub read_joined : (ms : List Bool) (at m d n x y : ℕ) → IsRead ms at m x → IsRead ms (at + d) n y → d ≤ m → m ≤ d + n → d < 64 → IsRead ms at (d + n) (bit_or x (y * 2 ^ d % 2 ^ 64))
read_joined ms at m d n x y front back meets reaches few = record {
  shown = λ i h q. has_or x (y * 2 ^ d % 2 ^ 64) i ∙ elim (cases_lt i d) [
    | inl l ↦ rw (has_shl_low 64 y d i l few) (or-false (has_bit x i) ∙ front.shown i (omega arith) q)
    | inr l ↦
        let next : at + d + (i - d) ≡ at + i = omega arith in
        let one : has_bit (y * 2 ^ d % 2 ^ 64) i ≡ get_or ms (at + i) false = has_shl_high 64 y d i l q ∙ back.shown (i - d) (omega arith) (omega arith) ∙ ap (λ k. get_or ms k false) next in
        elim (cases_lt i m) [
          | inl s ↦ rw (one, front.shown i s q) (or_same (get_or ms (at + i) false))
          | inr s ↦ rw (front.clear i s) one
        ]
  ];
  clear = λ i h. has_or x (y * 2 ^ d % 2 ^ 64) i ∙ rw (front.clear i (omega arith)) (elim (cases_lt i 64) [
    | inl q ↦ has_shl_high 64 y d i (omega arith) q ∙ back.clear (i - d) (omega arith)
    | inr q ↦ has_above (y * 2 ^ d % 2 ^ 64) 64 i (mod-lt (y * 2 ^ d) (lit< tt)) q
  ]);
}

-- a bit of a word, counted by its place in the row of places and by its index in the row of the order
same_bit : (place : ℕ → ℕ → ℕ) (w a r : ℕ) (ws : List ℕ) → r < w → place w r < w → a < length ws → get_or (row_of (λ v i. i) w ws) (a * w + place w r) false ≡ get_or (row_of place w ws) (a * w + r) false
same_bit place w a r ws low inside here =
    let s : ℕ = place w r in
    get_or-row_of (λ v i. i) w ws (a * w + s) (mul-add-lt a w s (length ws) here inside)
    ∙ ap (λ q. has_bit (get_or ws q 0) ((a * w + s) % w)) (div-mul-add a w s inside)
    ∙ ap (λ p. has_bit (get_or ws a 0) p) (mod-mul-add a w s inside)
    ∙ sym (get_or-row_of place w ws (a * w + r) (mul-add-lt a w r (length ws) here low)
    ∙ ap (λ q. has_bit (get_or ws q 0) (place w ((a * w + r) % w))) (div-mul-add a w r low)
    ∙ ap (λ p. has_bit (get_or ws a 0) (place w p)) (mod-mul-add a w r low))

-- a bit of words that were put in order after they were read, in an order that goes back
pub turned_bit : (place : ℕ → ℕ → ℕ) (w raw mid out i : ℕ) → IsWidth w → IsPermutation w (place w) → ((j : ℕ) → j < w → place w (place w j) ≡ j) → i < 64
    → ((j : ℕ) → j < 64 → has_bit mid (place 64 j) ≡ has_bit raw j) → ((j : ℕ) → j < 64 → has_bit out (unpacked_place place w j) ≡ has_bit mid (place 64 j))
    → (unpacked_place place w i < 64) × (has_bit out i ≡ has_bit raw (unpacked_place place w i))
turned_bit place w raw mid out i width lawful back h ordered apart =
    let q : ℕ = i / w in
    let low : i % w < w = mod-lt i (width_positive w width) in
    let s : ℕ = place w (i % w) in
    let inside : s < w = lawful.in_range (i % w) low in
    let room = word_inside w i width h in
    let below : q * w + s < 64 = omega arith in
    let here : (q * w + s) / w * w + place w ((q * w + s) % w) ≡ i = ap (λ m. m * w + place w ((q * w + s) % w)) (div-mul-add q w s inside) ∙ ap (λ m. q * w + place w m) (mod-mul-add q w s inside) ∙ ap (λ m. q * w + m) (back (i % w) low) ∙ div-add-mod' i w in
    (below, ap (has_bit out) (sym here) ∙ apart (q * w + s) below ∙ ordered (q * w + s) below)

-- a bit that was read by its place is that of the row at its index
pub row_turned : (place : ℕ → ℕ → ℕ) (w k count raw i : ℕ) (ws : List ℕ) → 0 < w → IsPermutation w (place w) → k + count ≤ length ws → count * w ≤ 64 → i < count * w
    → IsRead (row_of (λ v j. j) w ws) (k * w) (count * w) raw → has_bit raw (unpacked_place place w i) ≡ get_or (row_of place w ws) (k * w + i) false
row_turned place w k count raw i ws positive lawful within few h read =
    let q : ℕ = i / w in
    let r : ℕ = i % w in
    let low : r < w = mod-lt i positive in
    let s : ℕ = place w r in
    let inside : s < w = lawful.in_range r low in
    let split : q * w + r ≡ i = div-add-mod' i w in
    let word : q < count = elim (cases_lt q count) [
      | inl y ↦ y
      | inr y ↦ let most = mul_mono count q w y in absurd (omega arith)
    ] in
    let most = mul_mono (q + 1) count w (omega arith) in
    let more = one_more_word q w in
    let sum = right_sum k q w in
    let at : k * w + (q * w + s) ≡ (k + q) * w + s = omega arith in
    let there : (k + q) * w + r ≡ k * w + i = omega arith in
    read.shown (q * w + s) (omega arith) (omega arith) ∙ ap (λ n. get_or (row_of (λ v j. j) w ws) n false) at
    ∙ same_bit place w (k + q) r ws low inside (omega arith) ∙ ap (λ n. get_or (row_of place w ws) n false) there

-- words that were read by their places, put in order at once, are read by an order that goes back
pub read_turned : (place : ℕ → ℕ → ℕ) (w k count raw mid out : ℕ) (ws : List ℕ) → IsWidth w → IsPermutation w (place w) → ((i : ℕ) → i < w → place w (place w i) ≡ i) → k + count ≤ length ws → count * w ≤ 64 → out < 2 ^ 64
    → IsRead (row_of (λ v i. i) w ws) (k * w) (count * w) raw → ((i : ℕ) → i < 64 → has_bit mid (place 64 i) ≡ has_bit raw i) → ((i : ℕ) → i < 64 → has_bit out (unpacked_place place w i) ≡ has_bit mid (place 64 i))
    → IsRead (row_of place w ws) (k * w) (count * w) out
read_turned place w k count raw mid out ws width lawful back within few small read ordered apart =
    let positive = width_positive w width in
    record {
      shown = λ i h l. (turned_bit place w raw mid out i width lawful back l ordered apart).1 ∙ row_turned place w k count raw i ws positive lawful within few h read;
      clear = λ i h. elim (cases_lt i 64) [
        | inl l ↦
            let q : ℕ = i / w in
            let low : i % w < w = mod-lt i positive in
            let split : q * w + i % w ≡ i = div-add-mod' i w in
            let past : count ≤ q = elim (cases_lt q count) [
              | inl y ↦ let most = mul_mono (q + 1) count w (omega arith) in let more = one_more_word q w in absurd (omega arith)
              | inr y ↦ y
            ] in
            let most = mul_mono count q w past in
            (turned_bit place w raw mid out i width lawful back l ordered apart).1 ∙ read.clear (q * w + place w (i % w)) (omega arith)
        | inr l ↦ has_above out 64 i small l
      ];
    }

-- the first bits of a number are those of a list
pub first_bits : (ms : List Bool) (n x : ℕ) → length ms ≡ n → n ≤ 64 → ((i : ℕ) → i < n → has_bit x i ≡ get_or ms i false) → bit_and x ((2 ^ 64 - 1) / 2 ^ (64 - n)) ≡ number_of ms
first_bits ms n x size few shows =
    let back : 64 - (64 - n) ≡ n = omega arith in
    let mask : (2 ^ 64 - 1) / 2 ^ (64 - n) ≡ 2 ^ n - 1 = ones_shr 64 (64 - n) (omega arith) ∙ ap (λ k. 2 ^ k - 1) back in
    number_from_bits (bit_and x ((2 ^ 64 - 1) / 2 ^ (64 - n))) ms
    (rw mask (let low = mask_lt x n in let most : 2 ^ n ≤ 2 ^ 64 = pow_mono few in omega arith))
    (omega arith)
    (λ i h. has_and x ((2 ^ 64 - 1) / 2 ^ (64 - n)) i ∙ ap (λ m. has_bit x i && has_bit m i) mask ∙ elim (cases_lt i n) [
      | inl l ↦
          let one : has_bit (2 ^ n - 1) i ≡ true = ap (λ m. eqb m 1) (bit_at_ones n i l) in
          rw one (and-true (has_bit x i) ∙ shows i l)
      | inr l ↦
          let none : has_bit (2 ^ n - 1) i ≡ false = ap (λ m. eqb m 1) (bit_at_ones_above n i l) in
          rw none (and-false (has_bit x i) ∙ sym (get_or_past ms i false (omega arith)))
    ])

-- the words that some bits from word k on take are there, and have at most 64 bits
pub words_taken : (w k n count size : ℕ) → IsWidth w → 0 < n → n ≤ 64 → k * w + n ≤ w * size → ((m : ℕ) → n ≤ w * m → count ≤ m) → (count * w ≤ 64) × (k + count ≤ size) × (count ≤ 64)
words_taken w k n count size width some few fits least =
    let positive = width_positive w width in
    let fills : 64 / w * w ≡ 64 = pack_fills w width in
    let turned = mul_comm w (64 / w) in
    let most = least (64 / w) (omega arith) in
    let room = mul_mono count (64 / w) w most in
    let here = inside_words w k size (k * w) refl (omega arith) in
    let sum = right_sum k (size - k) w in
    let all : (k + (size - k)) * w ≡ size * w = ap (λ m. m * w) (omega arith) in
    let back = mul_comm w size in
    let rest = mul_comm w (size - k) in
    let left = least (size - k) (omega arith) in
    let wide = mul_mono 1 w 64 positive in
    let small = least 64 (omega arith) in
    (omega arith, omega arith, small)
