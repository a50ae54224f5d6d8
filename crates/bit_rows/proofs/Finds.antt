-- Where a bit stands first: where a run first differs from one of the other bit alone.
use Rattle.std.proofs.Common.{◌≡◌, ◌≢◌, ℕ, ◌+◌, ◌-◌, ◌/◌, ◌^◌, ◌<◌, ◌≤◌, Bool, true, false, not, if◌then◌else◌, eqb, List, [], ◌∷◌, length, get_or, take, drop, ◌++◌, replicate, slice_range, refl, sym, ◌∙◌, ap, subst, inl, inr, arith, bit_xor, w64}
use Rattle.std.proofs.lemmas.Bool.{cases_lt}
use Rattle.std.proofs.lemmas.List.{get_or-replicate, take-replicate, drop-replicate, get_or_past}
use Rattle.std.proofs.lemmas.List.{length-replicate, replicate-append-replicate, get_or-take, get_or-drop}
use Rattle.std.proofs.lemmas.Nat.Bits.{bit_at_ones, bit_at_ones_above, ones_shr}
use Rattle.std.proofs.Math.Pow.{pow_mono}
use Rattle.bit_addressing.specs.Bits.{has_bit}
use Rattle.std.specs.Int.{trailing_zeros}
use Rattle.bit_addressing.specs.Order.{IsPermutation}
use Rattle.bit_addressing.specs.Row.{number_of, row_of, IsFirst, IsFirstDifference}
use Rattle.bit_addressing.proofs.lists.Shown.{length-between, length-run}
use Rattle.bit_addressing.proofs.Runs.{slices_joined}
use Rattle.bit_addressing.proofs.Rows.{row_repeated}
use Rattle.bit_rows.proofs.Differs.{AreAlike, alike_all, alike_more, alike_run, differ_here}
use Rattle.bit_addressing.proofs.Words.{has_none}
use Rattle.bit_addressing.proofs.Chunks.{has_number, number_from_bits}

-- a run of one bit is part of a longer one
pub run_of_one : (n at m : ℕ) (b : Bool) → at + m ≤ n → slice_range (replicate n b) at (at + m) ≡ replicate m b
run_of_one n at m b h =
    let e : at + m - at ≡ m = omega arith in
    ap (take (at + m - at)) (drop-replicate at n b) ∙ take-replicate (at + m - at) (n - at) b (omega arith) ∙ ap (λ k. replicate k b) e

-- the lowest bits, all the same
pub all_bits : (b : Bool) (m x : ℕ) → m ≤ 64 → x ≡ (if b then 2 ^ m - 1 else 0) → x ≡ number_of (replicate m b)
all_bits true m x few is =
    let most : 2 ^ m ≤ 2 ^ 64 = pow_mono few in
    let size : length (replicate m true) ≡ m = length-replicate m true in
    let some : 0 < 2 ^ 64 = omega arith in
    number_from_bits x (replicate m true) (rw is (omega arith)) (omega arith) (λ i h. elim (cases_lt i m) [
      | inl l ↦ ap (λ n. has_bit n i) is ∙ ap (λ r. eqb r 1) (bit_at_ones m i l) ∙ sym (get_or-replicate m i true false l)
      | inr l ↦ ap (λ n. has_bit n i) is ∙ ap (λ r. eqb r 1) (bit_at_ones_above m i l) ∙ sym (get_or_past (replicate m true) i false (omega arith))
    ])
all_bits false m x few is =
    let size : length (replicate m false) ≡ m = length-replicate m false in
    number_from_bits x (replicate m false) (rw is (omega arith)) (omega arith) (λ i h. ap (λ n. has_bit n i) is ∙ has_none i ∙ elim (cases_lt i m) [
      | inl l ↦ sym (get_or-replicate m i false false l)
      | inr l ↦ sym (get_or_past (replicate m false) i false (omega arith))
    ])

-- the same, said of a part of a run of the bit
pub others_are : (b : Bool) (n at m x : ℕ) → at + m ≤ n → m ≤ 64 → x ≡ (if b then 2 ^ m - 1 else 0) → x ≡ number_of (slice_range (replicate n b) at (at + m))
others_are b n at m x h few is = all_bits b m x few is ∙ ap number_of (sym (run_of_one n at m b h))

-- the lowest of 64 equal bits
pub lowest_of : (b : Bool) (x m : ℕ) → 0 < m → m ≤ 64 → x ≡ (if b then 2 ^ 64 - 1 else 0) → x / 2 ^ (64 - m) ≡ (if b then 2 ^ m - 1 else 0)
lowest_of true x m some few is = let back : 64 - (64 - m) ≡ m = omega arith in ap (λ n. n / 2 ^ (64 - m)) is ∙ ones_shr 64 (64 - m) (omega arith) ∙ ap (λ k. 2 ^ k - 1) back
lowest_of false x m some few is = ap (λ n. n / 2 ^ (64 - m)) is ∙ grind arith

other : (a b : Bool) → a ≢ not b → a ≡ b
other true true h = refl
other false false h = refl
other true false h = absurd (h refl)
other false true h = absurd (h refl)

-- the first difference from a run of the other bit
pub first_is : (b : Bool) (xs : List Bool) (n k : ℕ) → length xs ≡ n → IsFirstDifference xs (slice_range (replicate n (not b)) 0 (0 + n)) k → IsFirst b xs k
first_is b xs n k size found =
    let all : slice_range (replicate n (not b)) 0 (0 + n) ≡ replicate n (not b) = run_of_one n 0 n (not b) (omega arith) in
    let inside = found.within in
    record {
      within = found.within;
      here = other (get_or xs k false) b (λ e. found.apart (e ∙ sym (ap (λ l. get_or l k false) all ∙ get_or-replicate n k (not b) false (omega arith))));
      before = λ i h. found.before i h ∙ ap (λ l. get_or l i false) all ∙ get_or-replicate n i (not b) false (omega arith);
    }

get_or-between : (xs : List Bool) (a b i : ℕ) → i < b - a → get_or (slice_range xs a b) i false ≡ get_or xs (a + i) false
get_or-between xs a b i h = get_or-take (b - a) (drop a xs) i false h ∙ get_or-drop a xs i false

-- each of 64 equal bits
pub equal_bits : (b : Bool) (x p : ℕ) → x ≡ (if b then 2 ^ 64 - 1 else 0) → p < 64 → has_bit x p ≡ b
equal_bits b x p is h = ap (λ n. has_bit n p) (all_bits b 64 x (omega arith) is) ∙ has_number (replicate 64 b) p ∙ get_or-replicate 64 p b false h

-- the first s bits of a run are the other bit alone
module _ (xs : List Bool) (from s upto : ℕ) (bit : Bool) (later : from + s ≤ upto) (inside : upto ≤ length xs) (passed : slice_range xs from (from + s) ≡ replicate s (not bit)) where
  -- a part that begins with other bits and goes on with other bits has no such bit
  pub none_after : slice_range xs (from + s) upto ≡ replicate (upto - (from + s)) (not bit) → slice_range xs from upto ≡ replicate (upto - from) (not bit)
  none_after rest =
      sym (slices_joined xs from (from + s) upto (omega arith) later inside) ∙ ap (λ l. l ++ slice_range xs (from + s) upto) passed ∙ ap (λ l. replicate s (not bit) ++ l) rest
      ∙ replicate-append-replicate s (upto - (from + s)) (not bit) ∙ ap (λ n. replicate n (not bit)) (omega arith)

  -- the first bit after s others is the first of the part, s places later
  pub first_after : (k : ℕ) → IsFirst bit (slice_range xs (from + s) upto) k → IsFirst bit (slice_range xs from upto) (s + k)
  first_after k found =
      let size : length (slice_range xs (from + s) upto) ≡ upto - (from + s) = length-between xs (from + s) upto inside in
      let long : length (slice_range xs from upto) ≡ upto - from = length-between xs from upto inside in
      let within = found.within in
      let at : from + (s + k) ≡ from + s + k = omega arith in
      record {
        within = omega arith;
        here = get_or-between xs from upto (s + k) (omega arith) ∙ ap (λ n. get_or xs n false) at ∙ sym (get_or-between xs (from + s) upto k (omega arith)) ∙ found.here;
        before = λ i h. get_or-between xs from upto i (omega arith) ∙ elim (cases_lt i s) [
          | inl l ↦ sym (get_or-between xs from (from + s) i (omega arith)) ∙ ap (λ l. get_or l i false) passed ∙ get_or-replicate s i (not bit) false l
          | inr l ↦
              let e : from + i ≡ from + s + (i - s) = omega arith in
              ap (λ n. get_or xs n false) e ∙ sym (get_or-between xs (from + s) upto (i - s) (omega arith)) ∙ found.before (i - s) (omega arith)
        ];
      }

-- two runs of the other bit, one after the other
pub others_after : (xs : List Bool) (from s m : ℕ) (bit : Bool) → from + s + m ≤ length xs → slice_range xs from (from + s) ≡ replicate s (not bit) → slice_range xs (from + s) (from + s + m) ≡ replicate m (not bit) → slice_range xs from (from + (s + m)) ≡ replicate (s + m) (not bit)
others_after xs from s m bit room first second =
    let upto : ℕ = from + s + m in
    let end : from + (s + m) ≡ upto = omega arith in
    let rest : m ≡ upto - (from + s) = omega arith in
    let all : upto - from ≡ s + m = omega arith in
    ap (slice_range xs from) end ∙ none_after xs from s upto bit (omega arith) room first (second ∙ ap (λ n. replicate n (not bit)) rest) ∙ ap (λ n. replicate n (not bit)) all

module _ (xs : List Bool) (from upto : ℕ) (bit : Bool) (ordered : from ≤ upto) (inside : upto ≤ length xs) where
  abbrev others : List Bool
  others = replicate (upto - from) (not bit)

  -- all bits of the run are the other bit
  pub none_has : (k : ℕ) → upto - from ≤ k → AreAlike xs (replicate (upto - from) (not bit)) from 0 k → slice_range xs from upto ≡ replicate (upto - from) (not bit)
  none_has k all alike =
      let end : from + (upto - from) ≡ upto = omega arith in
      let size : length others ≡ upto - from = length-replicate (upto - from) (not bit) in
      ap (slice_range xs from) (sym end) ∙ alike_all xs others from 0 (upto - from) k all (omega arith) (omega arith) alike ∙ run_of_one (upto - from) 0 (upto - from) (not bit) (omega arith)

  -- a part alike to the other bits up to k begins with k of them
  pub others_up_to : (k : ℕ) → k ≤ upto - from → AreAlike xs (replicate (upto - from) (not bit)) from 0 k → slice_range xs from (from + k) ≡ replicate k (not bit)
  others_up_to k few alike =
      let size : length others ≡ upto - from = length-replicate (upto - from) (not bit) in
      alike_all xs others from 0 k k (omega arith) (omega arith) (omega arith) alike ∙ run_of_one (upto - from) 0 k (not bit) (omega arith)

  module _ (k m x y : ℕ) (few : k + m ≤ upto - from) (small : m ≤ 64) (read : x ≡ number_of (slice_range xs (from + k) (from + k + m))) (is : y ≡ (if not bit then 2 ^ m - 1 else 0)) (alike : AreAlike xs (replicate (upto - from) (not bit)) from 0 k) where
    -- the next bits are the other bit too
    pub others_more : bit_xor x y ≡ 0 → AreAlike xs (replicate (upto - from) (not bit)) from 0 (k + m)
    others_more same = alike_more xs others from 0 k m x y (from + k) (0 + k) refl refl read (others_are (not bit) (upto - from) (0 + k) m y (omega arith) small is) same alike

    -- they are not: the lowest that differs stands first
    pub first_found : bit_xor x y ≢ 0 → bit_xor x y < 2 ^ 64 → IsFirst bit (slice_range xs from upto) (k + trailing_zeros w64 (bit_xor x y))
    first_found some fits =
        let end : from + (upto - from) ≡ upto = omega arith in
        let size : length others ≡ upto - from = length-replicate (upto - from) (not bit) in
        let run : length (slice_range xs from (from + (upto - from))) ≡ upto - from = length-run xs from (upto - from) (omega arith) in
        subst (λ u. IsFirst bit (slice_range xs from u) (k + trailing_zeros w64 (bit_xor x y))) end
        (first_is bit (slice_range xs from (from + (upto - from))) (upto - from) (k + trailing_zeros w64 (bit_xor x y)) run
        (differ_here xs others from 0 k m x y (from + k) (0 + k) refl refl read (others_are (not bit) (upto - from) (0 + k) m y (omega arith) small is) (upto - from) some fits few (omega arith) (omega arith) alike))

  -- a block of the other bit alone
  pub block_more : (place : ℕ → ℕ → ℕ) (k a v : ℕ) → IsPermutation 64 (place 64) → k + 64 ≤ upto - from → a ≡ from + k → row_of place 64 (v ∷ []) ≡ slice_range xs a (a + 64) → v ≡ (if not bit then 2 ^ 64 - 1 else 0) → AreAlike xs (replicate (upto - from) (not bit)) from 0 k
      → AreAlike xs (replicate (upto - from) (not bit)) from 0 (k + 64)
  block_more place k a v lawful few at read is alike =
      alike_run xs others from 0 k 64 a (0 + k) at refl (sym read ∙ row_repeated place 64 v (not bit) (omega arith) lawful (λ p h. equal_bits (not bit) v p is h) ∙ sym (run_of_one (upto - from) (0 + k) 64 (not bit) (omega arith))) alike
