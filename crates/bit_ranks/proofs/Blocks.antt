-- The ones of a run of bits, 64 at a time.
use Rattle.std.proofs.Common.{◌≡◌, ℕ, ◌+◌, ◌-◌, ◌*◌, ◌/◌, ◌%◌, ◌^◌, ◌≤◌, Bool, List, length, take, bit_and, slice_range, refl, sym, ◌∙◌, ap, arith, mul_comm}
use Rattle.std.specs.Prelude.{count_by, count_ones}
use Rattle.std.proofs.lemmas.List.Sums.{count_by-le-length}
use Rattle.std.proofs.lemmas.Nat.{div-add-mod'}
use Rattle.std.proofs.Math.Nat.{le_of_mul-le-mul_left}
use Rattle.bit_addressing.specs.Bits.{IsWidth}
use Rattle.bit_addressing.specs.Order.{IsPermutation}
use Rattle.bit_addressing.specs.Row.{number_of, row_of}
use Rattle.bit_addressing.proofs.Packs.{pack_fills}
use Rattle.bit_addressing.proofs.Rows.{width_positive}
use Rattle.bit_addressing.proofs.lists.Shown.{length-run, shows_fewer}
use Rattle.bit_addressing.proofs.lists.Sized.{right_sum}
use Rattle.bit_rows.proofs.Counts.{counted, counted_next, words_alike}
use Rattle.bit_slice.proofs.Halved.{ones_masked}
use Rattle.bit_slice.proofs.Numbered.{low_number}

-- a block that begins with a word has as many ones in each order
pub block_alike : (place : ℕ → ℕ → ℕ) (w : ℕ) (numbers : List ℕ) (at x : ℕ) → IsWidth w → IsPermutation w (place w) → at % w ≡ 0 → at + 64 ≤ w * length numbers → x ≡ number_of (slice_range (row_of (λ v i. i) w numbers) at (at + 64)) → count_ones x ≡ count_by (λ b. b) (slice_range (row_of place w numbers) at (at + 64))
block_alike place w numbers at x width lawful begins room is =
    let positive = width_positive w width in
    let split : at / w * w + at % w ≡ at = div-add-mod' at w in
    let begin : at / w * w ≡ at = omega (arith, split, begins) in
    let fills : 64 / w * w ≡ 64 = pack_fills w width in
    let sum = right_sum (at / w) (64 / w) w in
    let end : (at / w + 64 / w) * w ≡ at + 64 = omega (arith, sum, begin, fills) in
    let turned = mul_comm w (at / w + 64 / w) in
    let inside : at / w + 64 / w ≤ length numbers = le_of_mul-le-mul_left (omega (arith, turned, end, room)) positive in
    counted (row_of (λ v i. i) w numbers) at (at + 64) (at / w * w) ((at / w + 64 / w) * w) x begin end is
    ∙ sym (words_alike place w positive lawful numbers (at / w) (64 / w) (at / w + 64 / w) refl inside)
    ∙ ap (λ k. count_by (λ b. b) (slice_range (row_of place w numbers) k ((at / w + 64 / w) * w))) begin
    ∙ ap (λ k. count_by (λ b. b) (slice_range (row_of place w numbers) at k)) end

module _ (xs : List Bool) (from : ℕ) where
  -- a run has at most as many ones as bits
  pub few_ones : (n count : ℕ) → from + n ≤ length xs → count ≡ count_by (λ b. b) (slice_range xs from (from + n)) → count ≤ n
  few_ones n count room is = omega (arith, is, count_by-le-length (λ b. b) (slice_range xs from (from + n)), length-run xs from n room)

  -- the ones of a block more
  pub block_more : (t count ones : ℕ) → from + (t + 1) * 64 ≤ length xs → count ≡ count_by (λ b. b) (slice_range xs from (from + t * 64)) → ones ≡ count_by (λ b. b) (slice_range xs (from + t * 64) (from + t * 64 + 64)) → count + ones ≡ count_by (λ b. b) (slice_range xs from (from + (t + 1) * 64))
  block_more t count ones room before is =
      let end : from + t * 64 + 64 ≡ from + (t + 1) * 64 = omega arith in
      counted_next xs from (from + t * 64) (from + (t + 1) * 64) count ones (omega arith) (omega arith) room before
      (is ∙ ap (λ k. count_by (λ b. b) (slice_range xs (from + t * 64) k)) end)

  -- the ones of the first bits of a block more
  pub rest_more : (n count x : ℕ) → from + n / 64 * 64 + 64 ≤ length xs → count ≡ count_by (λ b. b) (slice_range xs from (from + n / 64 * 64)) → x ≡ number_of (slice_range xs (from + n / 64 * 64) (from + n / 64 * 64 + 64)) → count + count_ones (bit_and x (1 * 2 ^ (n % 64) % 2 ^ 64 - 1)) ≡ count_by (λ b. b) (slice_range xs from (from + n))
  rest_more n count x room before is =
      let at : ℕ = from + n / 64 * 64 in
      let m : ℕ = n % 64 in
      let block : List Bool = slice_range xs at (at + 64) in
      let size : length block ≡ 64 = length-run xs at 64 room in
      let low : x % 2 ^ m ≡ number_of (take m block) = ap (λ y. y % 2 ^ m) is ∙ low_number block m (omega arith) (omega arith) in
      let part : take m block ≡ slice_range xs at (at + m) = sym (shows_fewer xs at m 64 (omega arith) room) in
      let end : from + n ≡ at + m = omega arith in
      let ones = ones_masked x m (omega arith) ∙ counted xs at (at + m) at (from + n) (x % 2 ^ m) refl end (low ∙ ap number_of part) in
      counted_next xs from at (from + n) count (count_ones (bit_and x (1 * 2 ^ m % 2 ^ 64 - 1))) (omega arith) (omega arith) (omega arith) before ones
