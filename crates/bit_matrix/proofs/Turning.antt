-- Squares of 64 x 64 bits, turned by six steps.
use Rattle.std.proofs.Common.{◌≡◌, ℕ, ◌+◌, ◌-◌, ◌*◌, ◌/◌, ◌%◌, ◌^◌, ◌<◌, ◌≤◌, Bool, true, false, not, ◌&&◌, List, length, get_or, set, eqb, ltb, lit<, refl, sym, ◌∙◌, ap, inl, inr, arith, bit_and, bit_xor}
use Rattle.std.specs.Prelude.{if◌then◌else◌}
use Rattle.std.proofs.lemmas.Bool.{cases_lt, cases_eq, eqb-true, ltb-true, eq-eqb, ne_eqb}
use Rattle.std.proofs.lemmas.List.{get_or-set_same, get_or-set_other, length-set}
use Rattle.std.proofs.Math.Nat.{div-eq-sub-div}
use Rattle.std.proofs.lemmas.Nat.{div_below}
use Rattle.bit_addressing.specs.Bits.{has_bit}
use Rattle.bit_addressing.specs.Order.{all_below, below_tells}
use Rattle.bit_matrix.specs.Matrix.{plus_mod_2 as xor}
use Rattle.bit_matrix.specs.Squares.{IsLower, source_column, source_row, square_bit}
use Rattle.bit_addressing.proofs.Words.{has_and, has_xor, has_shr_low, has_shl_low, has_shl_high}
use Rattle.bit_slice.proofs.Sets.{and_false}
use Rattle.bit_matrix.proofs.ModTwo.{and_one, plus_false as xor_false}
use Rattle.bit_matrix.proofs.Ranks.{and_true as both_true}

-- ---- one step, on a word of the upper half and one of the lower half

xor_twice : (x y : Bool) → xor x (xor x y) ≡ y
xor_twice true true = refl
xor_twice true false = refl
xor_twice false y = refl

xor_around : (x y : Bool) → xor x (xor y x) ≡ y
xor_around true true = refl
xor_around true false = refl
xor_around false true = refl
xor_around false false = refl

-- where two words differ at places that a step exchanges
abbrev differing : ℕ → ℕ → ℕ → ℕ → ℕ
differing step lower low high = bit_and (bit_xor (low / 2 ^ step) high) lower

module _ (step lower low high : ℕ) (mask : IsLower step lower) where
  has_differing : (p : ℕ) → p < 64 → has_bit (differing step lower low high) p ≡ (xor (has_bit low (p + step)) (has_bit high p) && eqb (p / step % 2) 0)
  has_differing p inside = has_and (bit_xor (low / 2 ^ step) high) lower p ∙ rw (has_xor (low / 2 ^ step) high p, has_shr_low low step p, mask.places p inside) refl

  differs : (p : ℕ) → p < 64 → p / step % 2 ≡ 0 → has_bit (differing step lower low high) p ≡ xor (has_bit low (p + step)) (has_bit high p)
  differs p inside is = has_differing p inside ∙ rw (eq-eqb (p / step % 2) 0 is) (and_one (xor (has_bit low (p + step)) (has_bit high p)))

  agrees : (p : ℕ) → p < 64 → p / step % 2 ≡ 1 → has_bit (differing step lower low high) p ≡ false
  agrees p inside is = has_differing p inside ∙ rw (ne_eqb (p / step % 2) 0 (omega arith)) (and_false (xor (has_bit low (p + step)) (has_bit high p)))

  turned_digit : (j : ℕ) → step ≤ j → (j / step % 2) + ((j - step) / step % 2) ≡ 1
  turned_digit j past = let e = div-eq-sub-div mask.some past in omega (arith, e)

  step_fits : (j : ℕ) → j / step % 2 ≡ 1 → step ≤ j
  step_fits j is = elim (cases_lt j step) [
    | inl low ↦ (let e = div_below j step 1 mask.some (omega arith) in absurd (omega arith))
    | inr high ↦ high
  ]

  -- the word of the two that comes first afterwards
  pub first_zero : (j : ℕ) → j < 64 → j / step % 2 ≡ 0 → has_bit (bit_xor low (differing step lower low high * 2 ^ step % 2 ^ 64)) j ≡ has_bit low j
  first_zero j inside is =
      let few = mask.few in
      let none : has_bit (differing step lower low high * 2 ^ step % 2 ^ 64) j ≡ false = elim (cases_lt j step) [
        | inl l ↦ has_shl_low 64 (differing step lower low high) step j l few
        | inr h ↦ has_shl_high 64 (differing step lower low high) step j h inside ∙ agrees (j - step) (omega arith) (let t = turned_digit j h in omega arith)
      ] in
      has_xor low (differing step lower low high * 2 ^ step % 2 ^ 64) j ∙ rw none (xor_false (has_bit low j))

  -- the first word gets at the upper places the bits of the second
  pub first_one : (j : ℕ) → j < 64 → j / step % 2 ≡ 1 → has_bit (bit_xor low (differing step lower low high * 2 ^ step % 2 ^ 64)) j ≡ has_bit high (j - step)
  first_one j inside is =
      let past = step_fits j is in
      let back : j - step + step ≡ j = omega arith in
      has_xor low (differing step lower low high * 2 ^ step % 2 ^ 64) j
      ∙ ap (xor (has_bit low j)) (has_shl_high 64 (differing step lower low high) step j past inside ∙ differs (j - step) (omega arith) (let t = turned_digit j past in omega arith) ∙ ap (λ n. xor (has_bit low n) (has_bit high (j - step))) back)
      ∙ xor_twice (has_bit low j) (has_bit high (j - step))

  -- and the one after it
  pub next_zero : (j : ℕ) → j < 64 → j / step % 2 ≡ 0 → has_bit (bit_xor high (differing step lower low high)) j ≡ has_bit low (j + step)
  next_zero j inside is = has_xor high (differing step lower low high) j ∙ ap (xor (has_bit high j)) (differs j inside is) ∙ xor_around (has_bit high j) (has_bit low (j + step))

  -- the second word keeps its bits at the upper places
  pub next_one : (j : ℕ) → j < 64 → j / step % 2 ≡ 1 → has_bit (bit_xor high (differing step lower low high)) j ≡ has_bit high j
  next_one j inside is = has_xor high (differing step lower low high) j ∙ ap (xor (has_bit high j)) (agrees j inside is) ∙ xor_false (has_bit high j)

place_same : (words : List ℕ) (a b i j : ℕ) → a ≡ i → b ≡ j → square_bit words i j ≡ square_bit words a b
place_same words a b i j row column = ap (λ k. square_bit words k j) (sym row) ∙ ap (λ k. square_bit words a k) (sym column)

module _ (from : List ℕ) (step lower : ℕ) (mask : IsLower step lower) (i : ℕ) (half : i < 32) where
  low : ℕ
  low = get_or from i 0

  high : ℕ
  high = get_or from (i + 32) 0

  -- where a bit of either row comes from
  row_from : (k j d : ℕ) → k / 2 ≡ i → j / step % 2 ≡ d → source_row step k j ≡ i + 32 * d
  row_from k j d same is = rw (same, is) refl

  column_from : (k j d e : ℕ) → k % 2 ≡ e → j / step % 2 ≡ d → source_column step k j ≡ (j - step * d) + step * e
  column_from k j d e digit is = rw (digit, is) refl

  first_row : (k j : ℕ) → j < 64 → k ≡ 2 * i → has_bit (bit_xor low (differing step lower low high * 2 ^ step % 2 ^ 64)) j ≡ square_bit from (source_row step k j) (source_column step k j)
  unfolding low high
  first_row k j inside is =
      let same : k / 2 ≡ i = omega arith in
      let even : k % 2 ≡ 0 = omega arith in
      elim (cases_eq (j / step % 2) 0) [
        | inl zero ↦ first_zero step lower low high mask j inside zero ∙ place_same from (source_row step k j) (source_column step k j) i j (row_from k j 0 same zero ∙ omega arith) (column_from k j 0 0 even zero ∙ omega arith)
        | inr other ↦
            let one : j / step % 2 ≡ 1 = omega arith in
            first_one step lower low high mask j inside one ∙ place_same from (source_row step k j) (source_column step k j) (i + 32) (j - step) (row_from k j 1 same one ∙ omega arith) (column_from k j 1 0 even one ∙ omega arith)
      ]

  next_row : (k j : ℕ) → j < 64 → k ≡ 2 * i + 1 → has_bit (bit_xor high (differing step lower low high)) j ≡ square_bit from (source_row step k j) (source_column step k j)
  unfolding low high
  next_row k j inside is =
      let same : k / 2 ≡ i = omega arith in
      let odd : k % 2 ≡ 1 = omega arith in
      elim (cases_eq (j / step % 2) 0) [
        | inl zero ↦ next_zero step lower low high mask j inside zero ∙ place_same from (source_row step k j) (source_column step k j) i (j + step) (row_from k j 0 same zero ∙ omega arith) (column_from k j 0 1 odd zero ∙ omega arith)
        | inr other ↦
            let one : j / step % 2 ≡ 1 = omega arith in
            let past = step_fits step lower low high mask j one in
            next_one step lower low high mask j inside one ∙ place_same from (source_row step k j) (source_column step k j) (i + 32) j (row_from k j 1 same one ∙ omega arith) (column_from k j 1 1 odd one ∙ omega arith)
      ]

  -- two rows more
  pub woven : (to : List ℕ) → length to ≡ 64 → ((k j : ℕ) → k < 2 * i → j < 64 → square_bit to k j ≡ square_bit from (source_row step k j) (source_column step k j))
      → (k j : ℕ) → k < 2 * (i + 1) → j < 64
      → square_bit (set (set to (2 * i) (bit_xor (get_or from i 0) (differing step lower (get_or from i 0) (get_or from (i + 32) 0) * 2 ^ step % 2 ^ 64))) (2 * i + 1) (bit_xor (get_or from (i + 32) 0) (differing step lower (get_or from i 0) (get_or from (i + 32) 0)))) k j
      ≡ square_bit from (source_row step k j) (source_column step k j)
  unfolding low high
  woven to long was k j below inside =
      let x = bit_xor (get_or from i 0) (differing step lower (get_or from i 0) (get_or from (i + 32) 0) * 2 ^ step % 2 ^ 64) in
      let y = bit_xor (get_or from (i + 32) 0) (differing step lower (get_or from i 0) (get_or from (i + 32) 0)) in
      let size = length-set to (2 * i) x in
      elim (cases_eq k (2 * i + 1)) [
        | inl last ↦ ap (λ n. square_bit (set (set to (2 * i) x) (2 * i + 1) y) n j) last ∙ ap (λ w. has_bit w j) (get_or-set_same (set to (2 * i) x) (2 * i + 1) y 0 (omega arith)) ∙ next_row k j inside last
        | inr off ↦ ap (λ w. has_bit w j) (get_or-set_other (set to (2 * i) x) (2 * i + 1) k y 0 off) ∙ elim (cases_eq k (2 * i)) [
          | inl here ↦ ap (λ n. square_bit (set to (2 * i) x) n j) here ∙ ap (λ w. has_bit w j) (get_or-set_same to (2 * i) x 0 (omega arith)) ∙ first_row k j inside here
          | inr away ↦ ap (λ w. has_bit w j) (get_or-set_other to (2 * i) k x 0 away) ∙ was k j (omega arith) inside
        ]
      ]

-- ---- all six

-- masks that pass the test
same_bits : Bool → Bool → Bool
same_bits x y = if x then y else not y

same_bits_tell : (x y : Bool) → same_bits x y ≡ true → x ≡ y
unfolding same_bits
same_bits_tell true true h = refl
same_bits_tell true false h = cc
same_bits_tell false true h = cc
same_bits_tell false false h = refl

lower_by_test : (step mask : ℕ) → 0 < step → step < 64 → all_below (λ p. same_bits (has_bit mask p) (eqb (p / step % 2) 0)) 64 ≡ true → IsLower step mask
lower_by_test step mask some few tested = record {
  some = some;
  few = few;
  places = λ p inside. same_bits_tell (has_bit mask p) (eqb (p / step % 2) 0) (below_tells (λ q. same_bits (has_bit mask q) (eqb (q / step % 2) 0)) 64 tested p inside);
}

-- the mask of the lower half of 64 bits
pub lower_32 : IsLower 32 0x00000000FFFFFFFF
unfolding same_bits
lower_32 = lower_by_test 32 0x00000000FFFFFFFF (lit< tt) (lit< tt) refl

-- the mask of the lower halves of 32 bits
pub lower_16 : IsLower 16 0x0000FFFF0000FFFF
unfolding same_bits
lower_16 = lower_by_test 16 0x0000FFFF0000FFFF (lit< tt) (lit< tt) refl

-- the mask of the lower halves of 16 bits
pub lower_8 : IsLower 8 0x00FF00FF00FF00FF
unfolding same_bits
lower_8 = lower_by_test 8 0x00FF00FF00FF00FF (lit< tt) (lit< tt) refl

-- the mask of the lower halves of bytes
pub lower_4 : IsLower 4 0x0F0F0F0F0F0F0F0F
unfolding same_bits
lower_4 = lower_by_test 4 0x0F0F0F0F0F0F0F0F (lit< tt) (lit< tt) refl

-- the mask of the lower halves of half bytes
pub lower_2 : IsLower 2 0x3333333333333333
unfolding same_bits
lower_2 = lower_by_test 2 0x3333333333333333 (lit< tt) (lit< tt) refl

-- the mask of the lower bits of pairs
pub lower_1 : IsLower 1 0x5555555555555555
unfolding same_bits
lower_1 = lower_by_test 1 0x5555555555555555 (lit< tt) (lit< tt) refl

-- where the bit in row i and column j comes from in a step, and in all six
abbrev back : ℕ → ℕ × ℕ → ℕ × ℕ
back step p = (source_row step p.0 p.1, source_column step p.0 p.1)

abbrev origin : ℕ → ℕ → ℕ × ℕ
origin i j = back 32 (back 16 (back 8 (back 4 (back 2 (back 1 (i, j))))))

abbrev is_turned : ℕ → ℕ → Bool
is_turned i j = eqb (origin i j).0 j && eqb (origin i j).1 i

turned_test : all_below (λ i. all_below (is_turned i) 64) 64 ≡ true
turned_test = refl

-- a step finds what it moves inside the square
row_within : (step i j : ℕ) → i < 64 → source_row step i j < 64
row_within step i j inside = omega arith

abbrev columns_within : ℕ → Bool
columns_within step = all_below (λ j. ltb (source_column step 0 j) 64 && ltb (source_column step 1 j) 64) 64

column_within : (step : ℕ) → columns_within step ≡ true → (i j : ℕ) → j < 64 → source_column step i j < 64
column_within step tested i j inside =
    let both = both_true (ltb (source_column step 0 j) 64) (ltb (source_column step 1 j) 64) (below_tells (λ k. ltb (source_column step 0 k) 64 && ltb (source_column step 1 k) 64) 64 tested j inside) in
    elim (cases_eq (i % 2) 0) [
      | inl even ↦ rw even (ltb-true (source_column step 0 j) 64 both.0)
      | inr other ↦ (let odd : i % 2 ≡ 1 = omega arith in rw odd (ltb-true (source_column step 1 j) 64 both.1))
    ]

-- the bits after a step
abbrev pub IsWoven : ℕ → List ℕ → List ℕ → Type 0
IsWoven step from to = (i j : ℕ) → i < 64 → j < 64 → square_bit to i j ≡ square_bit from (source_row step i j) (source_column step i j)

-- six exchanges turn a square of 64 by 64 bits over its diagonal
pub turned : (s0 s1 s2 s3 s4 s5 s6 : List ℕ) → IsWoven 32 s0 s1 → IsWoven 16 s1 s2 → IsWoven 8 s2 s3 → IsWoven 4 s3 s4 → IsWoven 2 s4 s5 → IsWoven 1 s5 s6 → (i j : ℕ) → i < 64 → j < 64 → square_bit s6 i j ≡ square_bit s0 j i
turned s0 s1 s2 s3 s4 s5 s6 w32 w16 w8 w4 w2 w1 i j row column =
    let p1 = back 1 (i, j) in let p2 = back 2 p1 in let p4 = back 4 p2 in let p8 = back 8 p4 in let p16 = back 16 p8 in
    let r1 = row_within 1 i j row in let c1 = column_within 1 refl i j column in
    let r2 = row_within 2 p1.0 p1.1 r1 in let c2 = column_within 2 refl p1.0 p1.1 c1 in
    let r4 = row_within 4 p2.0 p2.1 r2 in let c4 = column_within 4 refl p2.0 p2.1 c2 in
    let r8 = row_within 8 p4.0 p4.1 r4 in let c8 = column_within 8 refl p4.0 p4.1 c4 in
    let r16 = row_within 16 p8.0 p8.1 r8 in let c16 = column_within 16 refl p8.0 p8.1 c8 in
    let at = both_true (eqb (origin i j).0 j) (eqb (origin i j).1 i) (below_tells (is_turned i) 64 (below_tells (λ k. all_below (is_turned k) 64) 64 turned_test i row) j column) in
    w1 i j row column ∙ w2 p1.0 p1.1 r1 c1 ∙ w4 p2.0 p2.1 r2 c2 ∙ w8 p4.0 p4.1 r4 c4 ∙ w16 p8.0 p8.1 r8 c8 ∙ w32 p16.0 p16.1 r16 c16
    ∙ sym (place_same s0 (origin i j).0 (origin i j).1 j i (eqb-true (origin i j).0 j at.0) (eqb-true (origin i j).1 i at.1))
