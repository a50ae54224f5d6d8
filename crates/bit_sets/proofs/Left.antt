-- The numbers that are left to an iterator.
use Rattle.std.proofs.Common.{◌≡◌, ℕ, suc, ◌+◌, ◌-◌, ◌*◌, ◌%◌, ◌^◌, ◌<◌, ◌≤◌, Bool, true, false, List, [], ◌∷◌, ◌++◌, count_by, get_or, length, length-take, min, drop, take, slice_get, slice_range, Some, refl, sym, ◌∙◌, ap, inl, inr, ◌⊎◌, arith}
use Rattle.std.proofs.Math.Seq.{drop-cons}
use Rattle.std.proofs.Math.ListN.{drop_of_length-le}
use Rattle.std.proofs.lemmas.Option.{get_or_from_slice_get, slice_get_within}
use Rattle.std.proofs.lemmas.Bool.{cases_lt}
use Rattle.std.proofs.lemmas.List.{length-drop, get_or-drop, take_all, take_more}
use Rattle.bit_slice.specs.Places.{ones_of}
use Rattle.bit_slice.proofs.Places.{places_count, places_none}
use Rattle.bit_slice.specs.Numbered.{ones_before}
use Rattle.bit_sets.specs.Sorted.{IsNextFrom, IsPacked, IsUptoNumber, low_part, number_at, numbers_of}
use Rattle.bit_slice.proofs.Numbered.{as_many, before_end, index_numbered, one_more, parted}
use Rattle.bit_sets.proofs.Packed.{length_numbers, low_inside, number_fits, number_is, one_at, shifted}

-- no one is between two indices
none_between : (xs : List Bool) (from upto : ℕ) → from ≤ upto → upto ≤ length xs → ((j : ℕ) → from ≤ j → j < upto → slice_get xs j ≡ Some false) → ones_before xs upto ≡ ones_before xs from
none_between xs from upto h l clear =
    let none = places_none (λ b. b) true refl refl xs from upto (record { each = λ j a b. get_or_from_slice_get xs j false false (clear j a b) }) in
    omega (arith, parted (λ b. b) xs from upto h l, places_count (λ b. b) xs from upto h l, ap length none)

module _ (n w : ℕ) (high low : List Bool) (at place : ℕ) (left : IsNextFrom n w high low at place) where
  -- where no one is left, no number is
  pub none_left_over : ((j : ℕ) → place ≤ j → j < length high → slice_get high j ≡ Some false) → at ≡ n
  none_left_over clear =
      let all = as_many (λ b. b) high (length high) (omega arith) ∙ before_end (λ b. b) high (length high) refl in
      let end = before_end (λ b. b) high (length high) refl in
      let ones = left.packed.ones in
      let before = left.before in
      omega (arith, none_between high place (length high) left.reached (omega arith) clear)

  module _ (i : ℕ) (begins : place ≤ i) (found : slice_get high i ≡ Some true) (clear : (j : ℕ) → place ≤ j → j < i → slice_get high j ≡ Some false) where
    inside : i < length high
    inside = slice_get_within high i true found

    -- the ones before the found one are the numbers already given
    pub before_it : ones_before high i ≡ at
    before_it = none_between high place i begins (let h = inside in omega arith) clear ∙ left.before

    -- the one that is found is that of the first number that is left
    pub found_one : Some i ≡ slice_get (ones_of high) at
    found_one = index_numbered (λ b. b) high i at inside (get_or_from_slice_get high i true false found) before_it

    -- while a number is left its index is below their number
    pub still_left : at < n
    still_left = let size = left.packed.ones in let h = (one_at high at i found_one).0 in omega arith

    -- after a number is given the next ones are left
    pub left_after : IsNextFrom n w high low (at + 1) (i + 1)
    left_after =
        record {
          packed = left.packed;
          inside = let h = still_left in omega arith;
          reached = let h = inside in omega arith;
          before = one_more (λ b. b) high i inside (get_or_from_slice_get high i true false found) ∙ ap (λ m. m + 1) before_it;
        }

    -- it is what its two parts make
    pub number_found : (part : ℕ) → part ≡ low_part w low at → (i - at) * 2 ^ w % 2 ^ 64 + part ≡ number_at w high low at
    number_found part is = ap (λ m. (i - at) * 2 ^ w % 2 ^ 64 + m) is ∙ ap (λ m. m + low_part w low at) (shifted n w high low at i left.packed found_one).1

    -- the low part of a number that is left lies in the list
    pub low_there : at * w + w ≤ length low
    low_there = let all = left.packed.lows in omega (arith, low_inside at n w still_left)

    -- the high and the low part of a number add up without overflow
    pub sum_fits : (part : ℕ) → part ≡ low_part w low at → (i - at) * 2 ^ w % 2 ^ 64 + part < 2 ^ 64
    sum_fits part is = omega (arith, number_found part is, number_fits n w high low at left.packed still_left)

-- the first number that is left, and those after it
drop_split : (n w : ℕ) (high low : List Bool) (at number : ℕ) → at < n → number ≡ number_at w high low at → drop at (numbers_of n w high low) ≡ number ∷ drop (at + 1) (numbers_of n w high low)
drop_split n w high low at number h is =
    let size = length_numbers n w high low in
    let next : suc at ≡ at + 1 = omega arith in
    drop-cons (numbers_of n w high low) at 0 (omega arith)
    ∙ ap (λ m. m ∷ drop (suc at) (numbers_of n w high low)) (number_is n w high low at 0 h ∙ sym is)
    ∙ ap (λ m. number ∷ drop m (numbers_of n w high low)) next

-- the numbers left are the first and those after it
pub numbers_split : (n w : ℕ) (high low : List Bool) (at end number : ℕ) → at < end → end ≤ n → number ≡ number_at w high low at → slice_range (numbers_of n w high low) at end ≡ number ∷ slice_range (numbers_of n w high low) (at + 1) end
numbers_split n w high low at end number some inside is =
    let more : end - at ≡ suc (end - (at + 1)) = omega arith in
    ap (take (end - at)) (drop_split n w high low at number (omega arith) is)
    ∙ ap (λ m. take m (number ∷ drop (at + 1) (numbers_of n w high low))) more

-- the last number that is left, and those before it
pub numbers_split_back : (n w : ℕ) (high low : List Bool) (at end last number : ℕ) → at ≤ last → end ≡ last + 1 → end ≤ n → number ≡ number_at w high low last → slice_range (numbers_of n w high low) at end ≡ slice_range (numbers_of n w high low) at last ++ number ∷ []
numbers_split_back n w high low at end last number some next inside is =
    let rest : List ℕ = drop at (numbers_of n w high low) in
    let size = length-drop at (numbers_of n w high low) in
    let all = length_numbers n w high low in
    let more : end - at ≡ (last - at) + 1 = omega arith in
    let place : at + (last - at) ≡ last = omega arith in
    let item : get_or rest (last - at) 0 ≡ number = get_or-drop at (numbers_of n w high low) (last - at) 0 ∙ ap (λ k. get_or (numbers_of n w high low) k 0) place ∙ number_is n w high low last 0 (omega arith) ∙ sym is in
    ap (λ m. take m rest) more ∙ take_more rest (last - at) 0 (omega arith) ∙ ap (λ m. take (last - at) rest ++ m ∷ []) item

-- none are left where the ends have met
pub numbers_over : (n w : ℕ) (high low : List Bool) (at end : ℕ) → end ≤ at → slice_range (numbers_of n w high low) at end ≡ []
numbers_over n w high low at end h = let none : end - at ≡ 0 = omega arith in ap (λ m. take m (drop at (numbers_of n w high low))) none

-- the numbers left are the distance of the two ends
pub numbers_count : (n w : ℕ) (high low : List Bool) (at end : ℕ) → end ≤ n → length (slice_range (numbers_of n w high low) at end) ≡ end - at
numbers_count n w high low at end inside = let all = length_numbers n w high low in simp (length-take, length-drop) (omega arith)

-- all numbers from one on are left
pub numbers_from : (n w : ℕ) (high low : List Bool) (at k : ℕ) → at ≡ min k n → slice_range (numbers_of n w high low) at n ≡ drop k (numbers_of n w high low)
numbers_from n w high low at k is =
    let all = length_numbers n w high low in
    let size = length-drop at (numbers_of n w high low) in
    take_all (n - at) (drop at (numbers_of n w high low)) (omega arith) ∙ rest (cases_lt k n)
  where
    rest : (k < n) ⊎ (n ≤ k) → drop at (numbers_of n w high low) ≡ drop k (numbers_of n w high low)
    rest (inl low_k) = let e : at ≡ k = omega arith in ap (λ m. drop m (numbers_of n w high low)) e
    rest (inr past) = let all = length_numbers n w high low in drop_of_length-le (numbers_of n w high low) (omega arith) ∙ sym (drop_of_length-le (numbers_of n w high low) (omega arith))

-- ---- from the end

module _ (high : List Bool) (end upto : ℕ) (last : IsUptoNumber high end upto) where
  -- where no one is before an index, no number is
  pub none_before : ((j : ℕ) → j < upto → j < length high → slice_get high j ≡ Some false) → end ≡ 0
  none_before clear =
      let reached = last.reached in
      let before = last.before in
      let none : ones_before high 0 ≡ 0 = refl in
      omega (arith, none_between high 0 upto (omega arith) reached (λ j a b. clear j b (omega arith)))

  module _ (i : ℕ) (ends : i < upto) (found : slice_get high i ≡ Some true) (clear : (j : ℕ) → i < j → j < upto → j < length high → slice_get high j ≡ Some false) where
    -- taking one from the back leaves one fewer before the end
    pub one_less : ones_before high i + 1 ≡ end
    one_less =
        let reached = last.reached in
        let before = last.before in
        let more = one_more (λ b. b) high i (omega arith) (get_or_from_slice_get high i true false found) in
        omega (arith, none_between high (i + 1) upto (omega arith) reached (λ j a b. clear j (omega arith) b (omega arith)))

    -- the end moves to the number before it
    pub upto_before : (k : ℕ) → end ≡ k + 1 → IsUptoNumber high k i
    upto_before k is = record { reached = let reached = last.reached in omega arith; before = let less = one_less in omega arith }

    -- the one of the last number left
    pub last_one : (k : ℕ) → end ≡ k + 1 → Some i ≡ slice_get (ones_of high) k
    last_one k is = index_numbered (λ b. b) high i k (slice_get_within high i true found) (get_or_from_slice_get high i true false found) (let less = one_less in omega arith)

-- all numbers stand before the end
pub upto_all : (n w : ℕ) (high low : List Bool) (end upto : ℕ) → IsPacked n w high low → end ≡ n → upto ≡ length high → IsUptoNumber high end upto
upto_all n w high low end upto packed all is =
    let ones = packed.ones in
    record { reached = omega arith; before = before_end (λ b. b) high upto is ∙ sym (as_many (λ b. b) high (length high) (omega arith) ∙ before_end (λ b. b) high (length high) refl) ∙ ones ∙ sym all }

-- a search past the last one has passed all numbers
pub place_none : (high : List Bool) (n k upto : ℕ) → length (ones_of high) ≡ n → upto ≡ length high → count_by (λ b. b) high ≤ k → ones_before high upto ≡ min k n
place_none high n k upto ones is few =
    let all = as_many (λ b. b) high (length high) (omega arith) ∙ before_end (λ b. b) high (length high) refl in
    before_end (λ b. b) high upto is ∙ omega arith

-- a search that found one has passed the numbers before it
pub place_some : (high : List Bool) (n k i : ℕ) → length (ones_of high) ≡ n → Some i ≡ slice_get (ones_of high) k → ones_before high i ≡ k → ones_before high i ≡ min k n
place_some high n k i ones found before = let low = slice_get_within (ones_of high) k i (sym found) in omega arith
