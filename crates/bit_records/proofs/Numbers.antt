-- Numbers out of bits and into them, and what a bit list written over or grown by one number has.
use Rattle.std.proofs.Common.{◌≡◌, ℕ, zero, suc, ◌+◌, ◌-◌, ◌*◌, ◌/◌, ◌^◌, ◌<◌, ◌≤◌, Bool, false, List, [], ◌∷◌, ◌++◌, map, length, take, drop, set, reverse, get_or, slice_range, slice_get, Some, sym, ◌∙◌, ap, subst, inl, inr, arith, rules}
use Rattle.std.specs.List.{range_with_len}
use Rattle.std.specs.Simd.Lanes.{mask_l}
use Rattle.std.proofs.lemmas.Simd.{mask_l-lt}
use Rattle.std.proofs.lemmas.Bool.{cases_lt}
use Rattle.std.proofs.lemmas.List.{ext_get_or, get_or-reverse, length-reverse, drop_all, length-take-le, get_or-take, take_all, take_more, length-append, length-set, places, same_lists, get_or_append_left, get_or-set_same, get_or-set_other}
use Rattle.std.proofs.Math.Seq.{get_or-append_seam}
use Rattle.std.proofs.lemmas.Option.{slice_get-get_or}
use Rattle.bit_rows.proofs.Combinations.{put_later}
use Rattle.std.proofs.lemmas.List.FromFn.{length-map-range_with_len, get_or-map-range_with_len}
use Rattle.std.proofs.lemmas.Nat.{div-mul-add}
use Rattle.bit_addressing.specs.Bits.{has_bit}
use Rattle.bit_addressing.specs.Row.{binary, number_of, put}
use Rattle.bit_rows.proofs.Binary.{length-binary, get_or-binary}
use Rattle.bit_addressing.proofs.Chunks.{has_number}
use Rattle.bit_addressing.proofs.Words.{same_word}
use Rattle.bit_addressing.proofs.lists.Put.{length-put}
use Rattle.bit_addressing.proofs.lists.Shown.{length-run}
use Rattle.bit_addressing.proofs.lists.Sized.{one_more_word}
use Rattle.bit_addressing.proofs.Runs.{mul_mono}
use Rattle.bit_records.specs.Records.{written, numbers_in, joined}

-- a digit of what digits write
has_written : (ds : List Bool) (i : ℕ) → i < length ds → has_bit (written ds) i ≡ get_or ds (length ds - 1 - i) false
has_written ds i h = has_number (reverse ds) i ∙ get_or-reverse ds i false h

number_below : (n : ℕ) (ms : List Bool) → length ms ≡ n → number_of ms < 2 ^ n
unfolding number_of
number_below n ms e = subst (λ k. mask_l ms < 2 ^ k) e (mask_l-lt ms)

-- the number that n digits write is below 2^n
pub written_below : (n : ℕ) (ds : List Bool) → length ds ≡ n → written ds < 2 ^ n
written_below n ds e = number_below n (reverse ds) (length-reverse ds ∙ e)

-- the digits of the number that digits write are these digits
pub binary_written : (n : ℕ) (ds : List Bool) → length ds ≡ n → binary n (written ds) ≡ ds
binary_written n ds size = ext_get_or false (binary n (written ds)) ds (length-binary n (written ds) ∙ sym size)
    (λ i h.
    let long = length-binary n (written ds) in
    let below : i < n = omega arith in
    let back : length ds - 1 - (n - 1 - i) ≡ i = omega arith in
    get_or-binary n (written ds) i below ∙ has_written ds (n - 1 - i) (omega arith) ∙ ap (λ k. get_or ds k false) back)

-- the number that the digits of a number write is this number
pub written_binary : (n x : ℕ) → n ≤ 64 → x < 2 ^ n → written (binary n x) ≡ x
written_binary n x few below =
    let long = length-binary n x in
    let turned : length (reverse (binary n x)) ≡ n = length-reverse (binary n x) ∙ long in
    same_word n (written (binary n x)) x (number_below n (reverse (binary n x)) turned) below
    (λ i h.
    let back : n - 1 - (length (binary n x) - 1 - i) ≡ i = omega arith in
    has_written (binary n x) i (omega arith) ∙ get_or-binary n x (length (binary n x) - 1 - i) (omega arith) ∙ ap (has_bit x) back)

-- a list holds its length over the width numbers
pub length-numbers : (w : ℕ) (xs : List Bool) → length (numbers_in w xs) ≡ length xs / w
unfolding numbers_in
length-numbers w xs = length-map-range_with_len (λ i. written (slice_range xs (i * w) (i * w + w))) 0 (length xs / w)

-- how many numbers there are
pub count_of : (w n : ℕ) (xs : List Bool) → 0 < w → length xs ≡ n * w → length (numbers_in w xs) ≡ n
count_of w n xs positive size = length-numbers w xs ∙ ap (λ k. k / w) (size ∙ omega arith) ∙ div-mul-add n w 0 positive

-- number i is written by its digits in the list
pub number_at : (w : ℕ) (xs : List Bool) (i : ℕ) → i < length xs / w → get_or (numbers_in w xs) i 0 ≡ written (slice_range xs (i * w) (i * w + w))
unfolding numbers_in
number_at w xs i h = get_or-map-range_with_len (λ i. written (slice_range xs (i * w) (i * w + w))) 0 (length xs / w) i i 0 h (omega arith)

-- numbers, each written at its index
pub same_numbers : (w : ℕ) (xs : List Bool) (ns : List ℕ) → 0 < w → w ≤ 64 → length xs ≡ length ns * w → ((i : ℕ) → i < length ns → (slice_range xs (i * w) (i * w + w) ≡ binary w (get_or ns i 0)) × (get_or ns i 0 < 2 ^ w)) → numbers_in w xs ≡ ns
same_numbers w xs ns positive few size each =
    let count : length xs / w ≡ length ns = ap (λ k. k / w) (size ∙ omega arith) ∙ div-mul-add (length ns) w 0 positive in
    ext_get_or 0 (numbers_in w xs) ns (length-numbers w xs ∙ count)
    (λ i h.
    let long = length-numbers w xs in
    let here : i < length ns = omega arith in
    let e = each i here in
    number_at w xs i (omega arith) ∙ ap written e.0 ∙ written_binary w (get_or ns i 0) few e.1)

-- ---- what calls do

-- the digits of one of the numbers of a list
digits_at : (w : ℕ) (xs : List Bool) (n i : ℕ) → 0 < w → length xs ≡ n * w → i < n → (i * w + w ≤ length xs) × ((slice_range xs (i * w) (i * w + w) ≡ binary w (get_or (numbers_in w xs) i 0)) × (get_or (numbers_in w xs) i 0 < 2 ^ w))
digits_at w xs n i positive size h =
    let more = one_more_word i w in
    let most = mul_mono (i + 1) n w (omega arith) in
    let room : i * w + w ≤ length xs = omega arith in
    let count : length xs / w ≡ n = ap (λ k. k / w) (size ∙ omega arith) ∙ div-mul-add n w 0 positive in
    let one : length (slice_range xs (i * w) (i * w + w)) ≡ w = length-run xs (i * w) w room in
    let is : get_or (numbers_in w xs) i 0 ≡ written (slice_range xs (i * w) (i * w + w)) = number_at w xs i (omega arith) in
    (room, (sym (ap (binary w) is ∙ binary_written w _ one), subst (λ k. k < 2 ^ w) (sym is) (written_below w _ one)))

front_of : (xs ys : List Bool) (a b : ℕ) → a ≤ b → b ≤ length xs → slice_range (xs ++ ys) a b ≡ slice_range xs a b
front_of xs ys a b h k = same_lists _ _ (search (rules, places)) (λ i e below. grind (arith, places))

back_of : (xs ys : List Bool) (a n : ℕ) → a ≡ length xs → n ≡ length ys → slice_range (xs ++ ys) a (a + n) ≡ ys
back_of xs ys a n h k = same_lists _ _ (search (rules, places)) (λ i e below. grind (arith, places))

-- one number more
pub number_joined : (w n v : ℕ) (xs : List Bool) → 0 < w → w ≤ 64 → length xs ≡ n * w → v < 2 ^ w → numbers_in w (xs ++ binary w v) ≡ numbers_in w xs ++ v ∷ []
number_joined w n v xs positive few size fits =
    let digits = length-binary w v in
    let more = one_more_word n w in
    let count = count_of w n xs positive size in
    let many : length (numbers_in w xs ++ v ∷ []) ≡ n + 1 = length-append (numbers_in w xs) (v ∷ []) ∙ omega arith in
    let long : length (xs ++ binary w v) ≡ length xs + w = length-append xs (binary w v) ∙ omega arith in
    same_numbers w (xs ++ binary w v) (numbers_in w xs ++ v ∷ []) positive few (long ∙ omega arith ∙ ap (λ k. k * w) (sym many))
    (λ i h. elim (cases_lt i n) [
      | inl l ↦
          let d = digits_at w xs n i positive size l in
          let same : get_or (numbers_in w xs ++ v ∷ []) i 0 ≡ get_or (numbers_in w xs) i 0 = get_or_append_left (numbers_in w xs) (v ∷ []) 0 i (omega arith) in
          (front_of xs (binary w v) (i * w) (i * w + w) (omega arith) d.0 ∙ d.1.0 ∙ ap (binary w) (sym same), subst (λ k. k < 2 ^ w) (sym same) d.1.1)
      | inr l ↦
          let at : i ≡ n = omega arith in
          let place : i * w ≡ length xs = ap (λ k. k * w) at ∙ sym size in
          let same : get_or (numbers_in w xs ++ v ∷ []) i 0 ≡ v = ap (λ k. get_or (numbers_in w xs ++ v ∷ []) k 0) (at ∙ sym count) ∙ get_or-append_seam (numbers_in w xs) v [] 0 in
          (back_of xs (binary w v) (i * w) w place (sym digits) ∙ ap (binary w) (sym same), subst (λ k. k < 2 ^ w) (sym same) fits)
    ])

part_before : (xs ys : List Bool) (d a b : ℕ) → d + length ys ≤ length xs → a ≤ b → b ≤ d → slice_range (put xs d ys) a b ≡ slice_range xs a b
unfolding put
part_before xs ys d a b k h l = same_lists _ _ (search (rules, places)) (λ i e below. grind (arith, places))

part_inside : (xs ys : List Bool) (d a n : ℕ) → d + length ys ≤ length xs → a ≡ d → n ≡ length ys → slice_range (put xs d ys) a (a + n) ≡ ys
unfolding put
part_inside xs ys d a n k h l = same_lists _ _ (search (rules, places)) (λ i e below. grind (arith, places))

-- one number written over
pub number_set : (w n i v : ℕ) (xs : List Bool) → 0 < w → w ≤ 64 → length xs ≡ n * w → i < n → v < 2 ^ w → numbers_in w (put xs (i * w) (binary w v)) ≡ set (numbers_in w xs) i v
number_set w n i v xs positive few size inside fits =
    let digits = length-binary w v in
    let room = (digits_at w xs n i positive size inside).0 in
    let count = count_of w n xs positive size in
    let many : length (set (numbers_in w xs) i v) ≡ n = length-set (numbers_in w xs) i v ∙ count in
    let long : length (put xs (i * w) (binary w v)) ≡ length xs = length-put xs (binary w v) (i * w) (omega arith) in
    same_numbers w (put xs (i * w) (binary w v)) (set (numbers_in w xs) i v) positive few (long ∙ size ∙ ap (λ k. k * w) (sym many))
    (λ j h.
    let below : j < n = omega arith in
    let d = digits_at w xs n j positive size below in
    elim (cases_lt j i) [
      | inl l ↦
          let end = mul_mono (j + 1) i w (omega arith) in
          let more = one_more_word j w in
          let same : get_or (set (numbers_in w xs) i v) j 0 ≡ get_or (numbers_in w xs) j 0 = get_or-set_other (numbers_in w xs) i j v 0 (λ e. absurd (omega arith)) in
          (part_before xs (binary w v) (i * w) (j * w) (j * w + w) (omega arith) (omega arith) (omega arith) ∙ d.1.0 ∙ ap (binary w) (sym same), subst (λ k. k < 2 ^ w) (sym same) d.1.1)
      | inr l ↦ elim (cases_lt i j) [
        | inl m ↦
            let end = mul_mono (i + 1) j w (omega arith) in
            let more = one_more_word i w in
            let same : get_or (set (numbers_in w xs) i v) j 0 ≡ get_or (numbers_in w xs) j 0 = get_or-set_other (numbers_in w xs) i j v 0 (λ e. absurd (omega arith)) in
            (put_later xs (binary w v) (i * w) (j * w) (j * w + w) (omega arith) (omega arith) (omega arith) d.0 ∙ d.1.0 ∙ ap (binary w) (sym same), subst (λ k. k < 2 ^ w) (sym same) d.1.1)
        | inr m ↦
            let at : j ≡ i = omega arith in
            let same : get_or (set (numbers_in w xs) i v) j 0 ≡ v = ap (λ k. get_or (set (numbers_in w xs) i v) k 0) at ∙ get_or-set_same (numbers_in w xs) i v 0 (omega arith) in
            (part_inside xs (binary w v) (i * w) (j * w) w (omega arith) (ap (λ k. k * w) at) (sym digits) ∙ ap (binary w) (sym same), subst (λ k. k < 2 ^ w) (sym same) fits)
      ]
    ])

-- the number at an index, by its digits
pub number_is : (w n i r : ℕ) (xs : List Bool) → 0 < w → w ≤ 64 → length xs ≡ n * w → i < n → binary w r ≡ slice_range xs (i * w) (i * w + w) → r < 2 ^ w → slice_get (numbers_in w xs) i ≡ Some r
number_is w n i r xs positive few size inside is below =
    let count = count_of w n xs positive size in
    let d = digits_at w xs n i positive size inside in
    let same : get_or (numbers_in w xs) i 0 ≡ r = sym (written_binary w (get_or (numbers_in w xs) i 0) few d.1.1) ∙ ap written (sym d.1.0 ∙ sym is) ∙ written_binary w r few below in
    slice_get-get_or (numbers_in w xs) i 0 (omega arith) ∙ ap Some same

-- ---- all of them

cut_in_two : (xs : List Bool) (a b : ℕ) → a ≤ b → b ≤ length xs → slice_range xs a b ++ drop b xs ≡ drop a xs
cut_in_two xs a b h k = same_lists _ _ (search (rules, places)) (λ i e below. grind (arith, places))

-- the numbers from the k-th on
joined_from : (w k n : ℕ) (xs : List Bool) → 0 < w → length xs ≡ (k + n) * w → joined w (map (λ i. written (slice_range xs (i * w) (i * w + w))) (range_with_len k n)) ≡ drop (k * w) xs
unfolding joined
joined_from w k zero xs positive size = sym (drop_all (k * w) xs (omega arith))
joined_from w k (suc n) xs positive size =
    let more = one_more_word k w in
    let all = mul_mono (k + 1) (k + suc n) w (omega arith) in
    let next : length xs ≡ (k + 1 + n) * w = size ∙ ap (λ m. m * w) (omega arith) in
    let one : length (slice_range xs (k * w) (k * w + w)) ≡ w = length-run xs (k * w) w (omega arith) in
    ap (λ ds. ds ++ joined w (map (λ i. written (slice_range xs (i * w) (i * w + w))) (range_with_len (k + 1) n))) (binary_written w (slice_range xs (k * w) (k * w + w)) one)
    ∙ ap (λ rest. slice_range xs (k * w) (k * w + w) ++ rest) (joined_from w (k + 1) n xs positive next)
    ∙ ap (λ m. slice_range xs (k * w) (k * w + w) ++ drop m xs) more
    ∙ cut_in_two xs (k * w) (k * w + w) (omega arith) (omega arith)

-- bits are the writings of the numbers in them, one after another
pub joined_numbers : (w n : ℕ) (xs : List Bool) → 0 < w → length xs ≡ n * w → joined w (numbers_in w xs) ≡ xs
unfolding numbers_in
joined_numbers w n xs positive size =
    let count : length xs / w ≡ n = ap (λ k. k / w) (size ∙ omega arith) ∙ div-mul-add n w 0 positive in
    let none : 0 * w ≡ 0 = omega arith in
    ap (λ m. joined w (map (λ i. written (slice_range xs (i * w) (i * w + w))) (range_with_len 0 m))) count
    ∙ joined_from w 0 n xs positive (size ∙ ap (λ m. m * w) (omega arith)) ∙ ap (λ m. drop m xs) none

-- the digits of a number lie in the bits
pub place_inside : (w n i : ℕ) → i < n → i * w + w ≤ n * w
place_inside w n i h =
    let more = one_more_word i w in
    let most = mul_mono (i + 1) n w (omega arith) in
    omega arith

-- the empty list holds no numbers
pub no_numbers : (w : ℕ) → 0 < w → numbers_in w [] ≡ []
no_numbers w positive =
    let none : length (numbers_in w []) ≡ 0 = count_of w 0 [] positive (omega arith) in
    same_lists _ _ none (λ i d below. absurd (omega arith))

-- where there is no number, there is no bit
pub no_bits : (w n : ℕ) (xs : List Bool) → length xs ≡ n * w → n ≡ 0 → xs ≡ []
no_bits w n xs size none =
    let all : n * w ≡ 0 = ap (λ k. k * w) none ∙ omega arith in
    same_lists _ _ (size ∙ all) (λ i d below. absurd (omega arith))

-- ---- fewer of them

taken_part : (xs : List Bool) (n a b : ℕ) → n ≤ length xs → a ≤ b → b ≤ n → slice_range (take n xs) a b ≡ slice_range xs a b
taken_part xs n a b h k l = same_lists _ _ (search (rules, places)) (λ i e below. grind (arith, places))

-- the first numbers are those of the first bits
pub numbers_taken : (w n m : ℕ) (xs : List Bool) → 0 < w → length xs ≡ n * w → m ≤ n → numbers_in w (take (m * w) xs) ≡ take m (numbers_in w xs)
numbers_taken w n m xs positive size most =
    let room = mul_mono m n w most in
    let cut : length (take (m * w) xs) ≡ m * w = length-take-le (m * w) xs (omega arith) in
    let count = count_of w n xs positive size in
    let left = count_of w m (take (m * w) xs) positive cut in
    let few : length (take m (numbers_in w xs)) ≡ m = length-take-le m (numbers_in w xs) (omega arith) in
    ext_get_or 0 _ _ (left ∙ sym few)
    (λ i h.
    let all = length-numbers w xs in
    let some = length-numbers w (take (m * w) xs) in
    let here : i < m = omega arith in
    let more = one_more_word i w in
    let end = mul_mono (i + 1) m w (omega arith) in
    number_at w (take (m * w) xs) i (omega arith)
    ∙ ap written (taken_part xs (m * w) (i * w) (i * w + w) (omega arith) (omega arith) (omega arith))
    ∙ sym (number_at w xs i (omega arith))
    ∙ sym (get_or-take m (numbers_in w xs) i 0 here))

-- a list is what comes before its last number, and that
pub last_apart : (xs : List ℕ) (n : ℕ) → length xs ≡ n + 1 → xs ≡ take n xs ++ get_or xs n 0 ∷ []
last_apart xs n e = sym (take_all (n + 1) xs (omega arith)) ∙ take_more xs n 0 (omega arith)

-- bits are equal exactly where the numbers in them are
pub same_bits : (w n m : ℕ) (xs ys : List Bool) → 0 < w → length xs ≡ n * w → length ys ≡ m * w → numbers_in w xs ≡ numbers_in w ys → xs ≡ ys
same_bits w n m xs ys positive size size' e = sym (joined_numbers w n xs positive size) ∙ ap (joined w) e ∙ joined_numbers w m ys positive size'

-- the bits of some numbers and of more
pub bits_of_more : (a b w : ℕ) → a * w + b * w ≡ (a + b) * w
bits_of_more a b w = grind arith
