-- Runs of a row that are rotated by exchanges of whole words.
use Rattle.std.proofs.Common.{◌≡◌, ℕ, ◌+◌, ◌-◌, ◌*◌, ◌<◌, ◌≤◌, Bool, List, ◌++◌, length, take, drop, get_or, slice_range, ap, inl, inr, arith, rules, mul_comm}
use Rattle.std.proofs.lemmas.Bool.{cases_lt}
use Rattle.std.proofs.lemmas.List.{same_lists, places}
use Rattle.bit_addressing.specs.Row.{put}
use Rattle.bit_addressing.proofs.Runs.{mul_mono}
use Rattle.bit_addressing.proofs.lists.Sized.{one_more_word, right_sum}

-- the first `by` of the `len` items from `at` on moved after the others of them
unfoldable pub rotated_run : List Bool → ℕ → ℕ → ℕ → List Bool
rotated_run xs at len by = put xs at (drop by (slice_range xs at (at + len)) ++ take by (slice_range xs at (at + len)))

module _ (xs : List Bool) (at len by : ℕ) (inside : by ≤ len) (room : at + len ≤ length xs) where
  -- a rotated run keeps the length
  pub length-rotated : length (rotated_run xs at len by) ≡ length xs
  unfolding put rotated_run
  length-rotated = grind (arith, places)

  -- an index before the run keeps its bit
  pub rotated_before : (i : ℕ) (b : Bool) → i < at → get_or (rotated_run xs at len by) i b ≡ get_or xs i b
  unfolding put rotated_run
  rotated_before i b h = grind (arith, places)

  -- an index before the seam has the bit `by` places later
  pub rotated_front : (i : ℕ) (b : Bool) → at ≤ i → i + by < at + len → get_or (rotated_run xs at len by) i b ≡ get_or xs (i + by) b
  unfolding put rotated_run
  rotated_front i b h k = grind (arith, places)

  -- an index after the seam has a bit of the run's front
  pub rotated_back : (i : ℕ) (b : Bool) → at + len ≤ i + by → i < at + len → get_or (rotated_run xs at len by) i b ≡ get_or xs (i + by - len) b
  unfolding put rotated_run
  rotated_back i b h k = grind (arith, places)

  -- an index after the run keeps its bit
  pub rotated_after : (i : ℕ) (b : Bool) → at + len ≤ i → get_or (rotated_run xs at len by) i b ≡ get_or xs i b
  unfolding put rotated_run
  rotated_after i b h = grind (arith, places)

-- a run goes up by `size`, and as many items after it go down
pub exchanged_up : (xs : List Bool) (low size at : ℕ) → low + size + at + size ≤ length xs
    → put (put (put xs low (slice_range xs (low + size + at) (low + size + at + size))) (low + size) (slice_range xs low (low + size))) (low + size + size) (slice_range xs (low + size) (low + size + at))
    ≡ rotated_run xs low (size + at + size) (size + at)
unfolding put rotated_run
exchanged_up xs low size at room = same_lists _ _ (search (rules, places)) (λ i e below. grind (arith, places))

-- a run goes down by `size`, and as many items before it go up
pub exchanged_down : (xs : List Bool) (low size at n : ℕ) → n + at ≡ size → low + size + size ≤ length xs
    → put (put (put xs low (slice_range xs (low + size) (low + size + size))) (low + size) (slice_range xs (low + at) (low + at + size))) low (slice_range xs low (low + at))
    ≡ rotated_run xs (low + at) (n + size) size
unfolding put rotated_run
exchanged_down xs low size at n sum room = same_lists _ _ (search (rules, places)) (λ i e below. grind (arith, places))

-- the first items go up before some of the others, and then before the rest
pub rotated_up : (xs : List Bool) (at len by size : ℕ) → by ≤ len → size ≤ len - by → at + len ≤ length xs
    → rotated_run (rotated_run xs at (by + size) by) (at + size) (len - size) by ≡ rotated_run xs at len by
rotated_up xs at len by size inside few room =
    let one = length-rotated xs at (by + size) by (omega arith) (omega arith) in
    same_lists _ _ (grind (arith, length-rotated)) (λ i e below. grind (arith, rotated_before, rotated_front, rotated_back, rotated_after, length-rotated))

-- the last items go down after some of the others, and then after the rest
pub rotated_down : (xs : List Bool) (at len by size : ℕ) → by ≤ len → size ≤ by → at + len ≤ length xs
    → rotated_run (rotated_run xs (at + (by - size)) (len - by + size) size) at (len - size) (by - size) ≡ rotated_run xs at len by
rotated_down xs at len by size inside few room =
    same_lists _ _ (grind (arith, length-rotated)) (λ i e below. grind (arith, rotated_before, rotated_front, rotated_back, rotated_after, length-rotated))

-- a rotated run begins later
pub slid_up : (xs : List Bool) (at skip by others : ℕ) → skip ≤ by → skip ≤ others → at + by + others + skip ≤ length xs
    → put (put (put (rotated_run xs at (by + others) by) at (slice_range xs at (at + skip))) (at + others) (slice_range xs (at + by + others) (at + by + others + skip))) (at + by + others) (slice_range xs (at + by) (at + by + skip))
    ≡ rotated_run xs (at + skip) (by + others) by
unfolding put
slid_up xs at skip by others few_first few_others room =
    let size = length-rotated xs at (by + others) by (omega arith) (omega arith) in
    same_lists _ _ (grind (arith, length-rotated, places)) (λ i e below. grind (arith, rotated_before, rotated_front, rotated_back, rotated_after, length-rotated, places))

-- a rotated run begins earlier
pub slid_down : (xs : List Bool) (at skip by others : ℕ) → skip ≤ by → skip ≤ others → at + by + others + skip ≤ length xs
    → put (put (put (rotated_run xs (at + skip) (by + others) by) at (slice_range xs (at + by) (at + by + skip))) (at + others) (slice_range xs at (at + skip))) (at + by + others) (slice_range xs (at + by + others) (at + by + others + skip))
    ≡ rotated_run xs at (by + others) by
unfolding put
slid_down xs at skip by others few_first few_others room =
    let size = length-rotated xs (at + skip) (by + others) by (omega arith) (omega arith) in
    same_lists _ _ (grind (arith, length-rotated, places)) (λ i e below. grind (arith, rotated_before, rotated_front, rotated_back, rotated_after, length-rotated, places))

-- ---- where the words lie that are carried

-- words whose bits reach less than a word beyond others' are no more than those
pub no_more_words : (k n w : ℕ) → k * w < n * w + w → k ≤ n
no_more_words k n w below = elim (cases_lt n k) [
  | inl over ↦ absurd (let far = mul_mono (n + 1) k w (omega (arith, over)) in let next = one_more_word n w in omega arith)
  | inr under ↦ under
]

-- a run of `n` bits and the words' worth of bits before them, which end before a word's last `skip` bits
pub record AreLast (w count last skip end n words : ℕ) : Type 0 where
  pub enough : count + count ≤ last
  pub there : last ≤ words
  pub low : (last - (count + count)) * w + (count * w + count * w) ≡ end + skip
  pub within : end + skip ≤ w * words

-- the last whole words of a run lie in the words
pub are_last : (w count last skip end n words : ℕ) → last * w ≡ end + skip → skip < w → count * w < n + w → n + count * w ≤ end → end ≤ w * words → AreLast w count last skip end n words
are_last w count last skip end n words ends few least inside within =
    let twice = right_sum count count w in
    let commuted = mul_comm w words in
    let enough : count + count ≤ last = no_more_words (count + count) last w (omega arith) in
    let there : last ≤ words = no_more_words last words w (omega arith) in
    let split : last - (count + count) + (count + count) ≡ last = omega arith in
    record {
      enough = enough;
      there = there;
      low = omega (arith, right_sum (last - (count + count)) (count + count) w, ap (λ k. k * w) split);
      within = omega (arith, mul_mono last words w there);
    }

-- a run that goes up by whole words ends before the last of the words, or with it
pub up_fits : (w first count skip head by words : ℕ) → first * w + skip ≡ head → count * w ≤ by → head + (by + count * w) ≤ w * words → 0 < w → first + 2 * count ≤ words
up_fits w first count skip head by words begins whole within positive =
    let sum : (first + 2 * count) * w ≡ first * w + (count * w + count * w) = grind arith in
    no_more_words (first + 2 * count) words w (omega (arith, sum, mul_comm w words))

-- two groups of words after the first one lie in the words
pub up_follows : (w first count skip head by words : ℕ) → first * w + skip ≡ head → count * w < by → head + (by + count * w) ≤ w * words → first + 2 * count < words
up_follows w first count skip head by words begins whole within =
    let sum : (first + 2 * count + 1) * w ≡ first * w + (count * w + count * w) + w = grind arith in
    omega (arith, no_more_words (first + 2 * count + 1) words w (omega (arith, sum, mul_comm w words)))
