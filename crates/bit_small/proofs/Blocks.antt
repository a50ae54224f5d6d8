-- The first bits of a row, 64 at a time.
use Rattle.std.proofs.Common.{◌≡◌, ℕ, ◌+◌, ◌-◌, ◌/◌, ◌^◌, ◌<◌, ◌≤◌, Bool, false, cond, List, ◌++◌, length, get_or, min, bit_and, inl, inr, slice_range, take, drop, refl, sym, ◌∙◌, ap, arith}
use Rattle.std.specs.Prelude.{count_by, count_ones}
use Rattle.std.specs.Int.Bits.{and_zero_r}
use Rattle.std.proofs.Math.Seq.{take-add}
use Rattle.std.proofs.lemmas.Bool.{cases_lt}
use Rattle.std.proofs.lemmas.List.{length-take, length-drop, places}
use Rattle.std.proofs.lemmas.List.Sums.{count_by-le-length, sum_by-append}
use Rattle.bit_addressing.specs.Bits.{has_bit}
use Rattle.bit_addressing.specs.Row.{number_bits, number_of}
use Rattle.bit_addressing.proofs.Chunks.{has_number}
use Rattle.bit_rows.proofs.Counts.{counted}
use Rattle.bit_slice.proofs.Numbered.{masked}
use Rattle.bit_slice.proofs.Writing.{bits_of_number, number_below}
use Rattle.bit_small.specs.SmallBits.{front}

-- ---- a block, of which the first n bits are in the list

module _ (xs : List Bool) (len at n : ℕ) (inside : len ≤ length xs) (room : at + 64 ≤ length xs) (few : n ≡ min 64 (len - at)) where
  part_length : length (slice_range (front xs len) at (at + 64)) ≡ n
  part_length = simp (length-take, length-drop) (omega arith)

  part_item : (i : ℕ) → i < n → get_or (slice_range xs at (at + 64)) i false ≡ get_or (slice_range (front xs len) at (at + 64)) i false
  part_item i h = grind (arith, places)

  -- the number of a block under a mask of n ones is that of the list's bits in the block
  pub block_masked : (x y : ℕ) → x ≡ number_of (slice_range xs at (at + 64)) → (0 < n → y ≡ (2 ^ 64 - 1) / 2 ^ (64 - n)) → (n ≡ 0 → y ≡ 0) → bit_and x y ≡ number_of (slice_range (front xs len) at (at + 64))
  block_masked x y is ones none =
      let part : List Bool = slice_range (front xs len) at (at + 64) in
      elim (cases_lt 0 n) [
        | inl some ↦ ap (bit_and x) (ones some) ∙ masked part n x part_length some (omega arith) (λ i h. ap (λ v. has_bit v i) is ∙ has_number (slice_range xs at (at + 64)) i ∙ part_item i h)
        | inr l ↦
            let no_bit : n ≡ 0 = omega arith in
            let small = number_below part 0 (part_length ∙ no_bit) in
            ap (bit_and x) (none no_bit) ∙ and_zero_r x ∙ (let is_zero : 0 ≡ number_of part = omega arith in is_zero)
      ]

-- ---- the next 64 bits

joined : (ys : List Bool) (at : ℕ) → take (at + 64) ys ≡ take at ys ++ slice_range ys at (at + 64)
joined ys at = (let many : at + 64 - at ≡ 64 = omega arith in take-add at 64 ys ∙ ap (λ n. take at ys ++ take n (drop at ys)) (sym many))

-- lists that are equal up to an index are equal up to 64 bits later where the numbers of these are
pub equal_further : (ys zs : List Bool) (at x y : ℕ) → length ys ≡ length zs → x ≡ number_of (slice_range ys at (at + 64)) → y ≡ number_of (slice_range zs at (at + 64)) → x ≡ y → take at ys ≡ take at zs → take (at + 64) ys ≡ take (at + 64) zs
equal_further ys zs at x y size xs_is ys_is same before =
    let ps : List Bool = slice_range ys at (at + 64) in
    let qs : List Bool = slice_range zs at (at + 64) in
    let sizes : length ps ≡ length qs = simp (length-take, length-drop, size) refl in
    let parts : ps ≡ qs = sym (bits_of_number ps (length ps) refl) ∙ ap (λ v. number_bits v (length ps)) (sym xs_is ∙ same ∙ ys_is) ∙ ap (number_bits (number_of qs)) sizes ∙ bits_of_number qs (length qs) refl in
    joined ys at ∙ ap (λ l. l ++ ps) before ∙ ap (λ l. take at zs ++ l) parts ∙ sym (joined zs at)

-- the ones up to an index and those of the next 64 bits
pub counted_further : (ys : List Bool) (at count x : ℕ) → count ≡ count_by (λ b. b) (take at ys) → x ≡ number_of (slice_range ys at (at + 64)) → count + count_ones x ≡ count_by (λ b. b) (take (at + 64) ys)
counted_further ys at count x before is =
    let ps : List Bool = slice_range ys at (at + 64) in
    ap (λ n. n + count_ones x) before ∙ ap (λ n. count_by (λ b. b) (take at ys) + n) (counted ys at (at + 64) at (at + 64) x refl refl is)
    ∙ sym (sum_by-append (λ b. cond b 1 0) (take at ys) ps) ∙ ap (count_by (λ b. b)) (sym (joined ys at))

-- the ones up to an index are no more than the bits
pub few_counted : (ys : List Bool) (at : ℕ) → count_by (λ b. b) (take at ys) ≤ at
few_counted ys at = omega (arith, count_by-le-length (λ b. b) (take at ys), length-take at ys)
