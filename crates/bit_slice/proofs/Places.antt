-- The indices of a list whose items pass a test, from both ends.
use Rattle.std.proofs.Common.{◌≡◌, ℕ, zero, suc, ◌+◌, ◌-◌, ◌<◌, ◌≤◌, Bool, true, false, not, cond, List, [], ◌∷◌, ◌++◌, length, get_or, count_by, slice_get, slice_range, Some, refl, sym, ◌∙◌, ap, arith}
use Rattle.std.specs.List.{All, filter, range_with_len}
use Rattle.std.proofs.lemmas.List.FromFn.{length-range_with_len, get_or-range_with_len}
use Rattle.std.proofs.lemmas.List.Elements.{filter-append, filter_passes, All-filter}
use Rattle.std.proofs.lemmas.List.Sums.{length-filter, sum_by-cons}
use Rattle.bit_addressing.proofs.lists.Shown.{length-between}
use Rattle.bit_slice.proofs.Found.{item_is, item_of_part}
use Rattle.bit_slice.specs.Places.{IsAbsent, IsNext, IsLast, places_between}

-- two runs of numbers in a row
pub ranges_joined : (lo m n : ℕ) → range_with_len lo (m + n) ≡ range_with_len lo m ++ range_with_len (lo + m) n
ranges_joined lo zero n =
    let e : zero + n ≡ n = omega arith in
    let z : lo + zero ≡ lo = omega arith in
    ap (range_with_len lo) e ∙ ap (λ k. range_with_len k n) (sym z)
ranges_joined lo (suc m) n =
    let e : suc m + n ≡ suc (m + n) = omega arith in
    let z : lo + 1 + m ≡ lo + suc m = omega arith in
    ap (range_with_len lo) e ∙ ap (λ l. lo ∷ l) (ranges_joined (lo + 1) m n) ∙ ap (λ k. lo ∷ (range_with_len (lo + 1) m ++ range_with_len k n)) z

module _ (p : Bool → Bool) where
  abbrev passes_at : List Bool → ℕ → Bool
  passes_at xs i = p (get_or xs i false)

  -- n indices from lo on of which none passes
  none_pass : (xs : List Bool) (lo n : ℕ) → ((j : ℕ) → lo ≤ j → j < lo + n → p (get_or xs j false) ≡ false) → filter (passes_at xs) (range_with_len lo n) ≡ []
  none_pass xs lo zero h = refl
  none_pass xs lo (suc n) h =
      ap (λ b. cond b (lo ∷ filter (passes_at xs) (range_with_len (lo + 1) n)) (filter (passes_at xs) (range_with_len (lo + 1) n))) (h lo (omega arith) (omega arith))
      ∙ none_pass xs (lo + 1) n (λ j a b. h j (omega arith) (omega arith))

  -- between ends that have met are no places
  pub places_empty : (xs : List Bool) (lo hi : ℕ) → hi ≤ lo → places_between p xs lo hi ≡ []
  places_empty xs lo hi h = none_pass xs lo (hi - lo) (λ j a b. absurd (omega arith))

  -- a part before an index and a part from it on
  places_split : (xs : List Bool) (lo hi i : ℕ) → lo ≤ i → i ≤ hi → places_between p xs lo hi ≡ places_between p xs lo i ++ places_between p xs i hi
  places_split xs lo hi i a b =
      let e : hi - lo ≡ (i - lo) + (hi - i) = omega arith in
      let z : lo + (i - lo) ≡ i = omega arith in
      ap (λ n. filter (passes_at xs) (range_with_len lo n)) e ∙ ap (filter (passes_at xs)) (ranges_joined lo (i - lo) (hi - i))
      ∙ filter-append (passes_at xs) (range_with_len lo (i - lo)) (range_with_len (lo + (i - lo)) (hi - i))
      ∙ ap (λ k. places_between p xs lo i ++ filter (passes_at xs) (range_with_len k (hi - i))) z

  -- an index that passes, and those after it
  pub places_from : (xs : List Bool) (i hi : ℕ) → i < hi → p (get_or xs i false) ≡ true → places_between p xs i hi ≡ i ∷ places_between p xs (i + 1) hi
  places_from xs i hi h is =
      let e : hi - i ≡ suc (hi - (i + 1)) = omega arith in
      ap (λ n. filter (passes_at xs) (range_with_len i n)) e
      ∙ ap (λ b. cond b (i ∷ filter (passes_at xs) (range_with_len (i + 1) (hi - (i + 1)))) (filter (passes_at xs) (range_with_len (i + 1) (hi - (i + 1))))) is

  -- as many indices from lo on pass as items of a list that stands there
  count_from : (all xs : List Bool) (lo : ℕ) → ((k : ℕ) → k < length xs → get_or all (lo + k) false ≡ get_or xs k false) → count_by (passes_at all) (range_with_len lo (length xs)) ≡ count_by p xs
  count_from all [] lo h = refl
  count_from all (x ∷ xs) lo h =
      let z : lo + 0 ≡ lo = omega arith in
      let here : get_or all lo false ≡ x = ap (λ k. get_or all k false) (sym z) ∙ h 0 (omega arith) in
      sum_by-cons (λ i. cond (passes_at all i) 1 0) lo (range_with_len (lo + 1) (length xs))
      ∙ ap (λ b. cond (p b) 1 0 + count_by (passes_at all) (range_with_len (lo + 1) (length xs))) here
      ∙ ap (λ n. cond (p x) 1 0 + n) (count_from all xs (lo + 1) (λ k b. let e : lo + 1 + k ≡ lo + suc k = omega arith in ap (λ j. get_or all j false) e ∙ h (suc k) (omega arith)))
      ∙ sym (sum_by-cons (λ b. cond (p b) 1 0) x xs)

  -- as many indices of a part pass as items of it
  pub places_count : (xs : List Bool) (lo hi : ℕ) → lo ≤ hi → hi ≤ length xs → length (places_between p xs lo hi) ≡ count_by p (slice_range xs lo hi)
  places_count xs lo hi ordered inside =
      let size : length (slice_range xs lo hi) ≡ hi - lo = length-between xs lo hi inside in
      length-filter (passes_at xs) (range_with_len lo (hi - lo))
      ∙ ap (λ n. count_by (passes_at xs) (range_with_len lo n)) (sym size)
      ∙ count_from xs (slice_range xs lo hi) lo (λ k h. sym (item_of_part xs lo hi k (omega arith)))

  -- the places of the whole list are the indices whose items pass
  pub places_whole : (xs : List Bool) (n : ℕ) → length xs ≡ n → places_between p xs 0 n ≡ filter (passes_at xs) (range_with_len 0 (length xs))
  places_whole xs n h = let e : n - 0 ≡ length xs = omega arith in ap (λ k. filter (passes_at xs) (range_with_len 0 k)) e

  -- there are as many places as items that pass
  pub places_count_all : (xs : List Bool) (n : ℕ) → length xs ≡ n → length (places_between p xs 0 n) ≡ count_by p xs
  places_count_all xs n h = ap length (places_whole xs n h) ∙ length-filter (passes_at xs) (range_with_len 0 (length xs)) ∙ count_from xs xs 0 (λ k h. let e : 0 + k ≡ k = omega arith in ap (λ j. get_or xs j false) e)

  -- each place is an index of the list
  pub all_inside : (xs : List Bool) (n : ℕ) → length xs ≡ n → All (λ i. i < n) (places_between p xs 0 n)
  all_inside xs n size =
      All-filter (passes_at xs) (λ i. i < n) (range_with_len 0 (n - 0))
      (λ k d h. let below : k < n = omega (arith, length-range_with_len 0 (n - 0), h) in let e = get_or-range_with_len 0 (n - 0) k d (omega arith) in omega (arith, e))

  module _ (bit : Bool) (passes : p bit ≡ true) (fails : p (not bit) ≡ false) where
    -- where no item passes there are no places
    pub places_none : (xs : List Bool) (lo hi : ℕ) → IsAbsent bit xs lo hi → places_between p xs lo hi ≡ []
    places_none xs lo hi h = none_pass xs lo (hi - lo) (λ j a b. ap p (h.each j a (omega arith)) ∙ fails)

    -- none is before an index, so the indices are those from it on
    pub places_later : (xs : List Bool) (lo middle hi : ℕ) → lo ≤ middle → middle ≤ hi → IsAbsent bit xs lo middle → places_between p xs middle hi ≡ places_between p xs lo hi
    places_later xs lo middle hi a b h = sym (places_split xs lo hi middle a b ∙ ap (λ l. l ++ places_between p xs middle hi) (places_none xs lo middle h))

    -- the places are the next one and those after it
    pub places_first : (xs : List Bool) (lo hi i : ℕ) → IsNext bit xs lo hi i → places_between p xs lo hi ≡ i ∷ places_between p xs (i + 1) hi
    places_first xs lo hi i h =
        let b = h.begins in let w = h.within in
        places_split xs lo hi i b (omega arith) ∙ ap (λ l. l ++ places_between p xs i hi) (places_none xs lo i h.before) ∙ places_from xs i hi w (ap p h.here ∙ passes)

    -- the places are those before the last one, and it
    pub places_last : (xs : List Bool) (lo hi i : ℕ) → IsLast bit xs lo hi i → places_between p xs lo hi ≡ places_between p xs lo i ++ i ∷ []
    places_last xs lo hi i h =
        let b = h.begins in let w = h.within in
        places_split xs lo hi i b (omega arith) ∙ ap (λ l. places_between p xs lo i ++ l) (places_from xs i hi w (ap p h.here ∙ passes) ∙ ap (λ l. i ∷ l) (places_none xs (i + 1) hi h.after))

  -- each of the indices has the bit that alone passes
  pub all_set : (bit : Bool) → ((b : Bool) → p b ≡ true → b ≡ bit) → (xs : List Bool) (n : ℕ) → length xs ≡ n → All (λ i. slice_get xs i ≡ Some bit) (places_between p xs 0 n)
  all_set bit told xs n size = λ k d h.
      let i = get_or (places_between p xs 0 n) k d in
      item_is xs i bit (let below = all_inside xs n size k d h in omega (arith, below, size)) (told (get_or xs i false) (filter_passes (passes_at xs) (range_with_len 0 (n - 0)) k d h))

-- an item that is true is true
pub true_alone : (b : Bool) → b ≡ true → b ≡ true
true_alone b e = e

-- an item that is not true is false
pub false_alone : (b : Bool) → not b ≡ true → b ≡ false
false_alone false e = refl
false_alone true e = sym e
