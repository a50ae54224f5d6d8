-- The indices of the ones of a list, by number, and the zeros between them.
use Rattle.std.proofs.Common.{◌≡◌, ℕ, zero, suc, ◌+◌, ◌-◌, ◌<◌, ◌≤◌, Bool, true, false, not, cond, List, [], ◌∷◌, ◌++◌, length, take, set, get_or, count_by, slice_get, Some, refl, sym, ◌∙◌, ap, inl, inr, arith}
use Rattle.std.specs.List.{filter, range_with_len}
use Rattle.std.specs.List.Sorted.{IsStrictlyIncreasing}
use Rattle.std.proofs.lemmas.Bool.{cases_lt}
use Rattle.std.proofs.lemmas.List.{append-nil, length-set, length-take, get_or-set_same, get_or-set_other}
use Rattle.std.proofs.lemmas.List.Elements.{filter-append, filter_passes, All-filter}
use Rattle.std.proofs.lemmas.List.FromFn.{length-range_with_len, get_or-range_with_len}
use Rattle.std.proofs.lemmas.List.Kept.{IsStrictlyIncreasing-filter, AllPairs-from_increasing}
use Rattle.std.proofs.lemmas.Option.{get_or_from_slice_get, slice_get-get_or, slice_get_within}
use Rattle.bit_slice.specs.Places.{ones_of}
use Rattle.bit_slice.proofs.Places.{places_count, places_none, ranges_joined}
use Rattle.bit_slice.proofs.Rules.{zeros_and_ones}
use Rattle.bit_slice.specs.Numbered.{ones_before, zeros_before}
use Rattle.bit_sets.specs.Sorted.{AreSameHigh, IsUptoHigh, high_part}
use Rattle.bit_slice.proofs.Numbered.{around, as_many, before_end, index_numbered, more_before, one_more, at_most_index, parted}

range_increases : (a n : ℕ) → IsStrictlyIncreasing (range_with_len a n)
range_increases a n k h =
    let size = length-range_with_len a n in
    omega (arith, get_or-range_with_len a n k 0 (omega arith), get_or-range_with_len a n (k + 1) 0 (omega arith))

-- before the k-th one there are k ones
pub record IsOne (xs : List Bool) (k i : ℕ) : Type 0 where
  pub inside : i < length xs
  pub here : get_or xs i false ≡ true
  pub before : ones_before xs i ≡ k

-- the one with number k is at its place among the ones
pub one_numbered : (xs : List Bool) (k : ℕ) → k < length (ones_of xs) → IsOne xs k (get_or (ones_of xs) k 0)
one_numbered xs k h =
    let test : ℕ → Bool = λ j. get_or xs j false in
    let i = get_or (ones_of xs) k 0 in
    let up = AllPairs-from_increasing (ones_of xs) (IsStrictlyIncreasing-filter test (range_with_len 0 (length xs)) (range_increases 0 (length xs))) in
    let inside : i < length xs = All-filter test (λ j. j < length xs) (range_with_len 0 (length xs)) (λ j d l. let size = length-range_with_len 0 (length xs) in omega (arith, get_or-range_with_len 0 (length xs) j d (omega arith))) k 0 h in
    let here : get_or xs i false ≡ true = filter_passes test (range_with_len 0 (length xs)) k 0 h in
    let m = ones_before xs i in
    let same : Some i ≡ slice_get (ones_of xs) m = index_numbered (λ b. b) xs i m inside here refl in
    let within : m < length (ones_of xs) = slice_get_within (ones_of xs) m i (sym same) in
    let at : Some i ≡ Some (get_or (ones_of xs) m 0) = same ∙ slice_get-get_or (ones_of xs) m 0 within in
    let item : i ≡ get_or (ones_of xs) m 0 = (cc) in
    record {
      inside = inside;
      here = here;
      before = elim (cases_lt m k) [
        | inl l ↦ absurd (omega (arith, item, up m k 0 l h))
        | inr l ↦ elim (cases_lt k m) [
          | inl n ↦ absurd (omega (arith, item, up k m 0 n within))
          | inr n ↦ omega arith
        ]
      ];
    }

-- the bits before an index are zeros and ones
pub parts_before : (xs : List Bool) (i : ℕ) → i ≤ length xs → zeros_before xs i + ones_before xs i ≡ i
parts_before xs i h = omega (arith, zeros_and_ones (take i xs), length-take i xs)

-- the high part of a number is how many zeros are before its one
pub high_is_zeros : (xs : List Bool) (k : ℕ) → k < length (ones_of xs) → high_part xs k ≡ zeros_before xs (get_or (ones_of xs) k 0)
high_is_zeros xs k h =
    let one = one_numbered xs k h in
    let inside = one.inside in
    let before = one.before in
    omega (arith, parts_before xs (get_or (ones_of xs) k 0) (omega arith))

-- the one with number k is at index k or later
pub number_of_one : (xs : List Bool) (k : ℕ) → k < length (ones_of xs) → k ≤ get_or (ones_of xs) k 0
number_of_one xs k h = let one = one_numbered xs k h in let before = one.before in omega (arith, at_most_index (λ b. b) xs (get_or (ones_of xs) k 0))

-- ---- a zero with as many zeros before it

module _ (xs : List Bool) (high place : ℕ) (inside : place < length xs) (here : get_or xs place false ≡ false) (zeros : zeros_before xs place ≡ high) where
  ones : ones_before xs place ≡ place - high
  ones = omega (arith, parts_before xs place (omega arith))

  -- there are as many ones before the place as its distance from the high part says
  pub few_ones : place - high ≤ length (ones_of xs)
  few_ones =
      let all = as_many (λ b. b) xs (length xs) (omega arith) ∙ before_end (λ b. b) xs (length xs) refl in
      let most = before_end (λ b. b) xs (length xs) refl in
      omega (arith, ones, all, most, more_before (λ b. b) xs place (length xs) (omega arith) (omega arith))

  apart : (i : ℕ) → get_or xs i false ≡ true → i ≡ place → ⊥
  apart i one same = let e : true ≡ false = sym one ∙ ap (λ j. get_or xs j false) same ∙ here in absurd (cc)

  -- ones before the place have a high part up to this one
  pub ones_sooner : (k : ℕ) → k < place - high → high_part xs k ≤ high
  ones_sooner k h =
      let all = few_ones in
      let below : k < length (ones_of xs) = omega arith in
      let one = one_numbered xs k below in
      let i = get_or (ones_of xs) k 0 in
      let at = one.inside in
      let before = one.before in
      let value = high_is_zeros xs k below in
      elim (cases_lt i place) [
        | inl l ↦ omega (arith, more_before not xs i place (omega arith) (omega arith))
        | inr l ↦ absurd (omega (arith, ones, more_before (λ b. b) xs place i l (omega arith)))
      ]

  -- ones from the place on have a larger high part
  pub ones_later : (k : ℕ) → place - high ≤ k → k < length (ones_of xs) → high < high_part xs k
  ones_later k h below =
      let one = one_numbered xs k below in
      let i = get_or (ones_of xs) k 0 in
      let at = one.inside in
      let before = one.before in
      let value = high_is_zeros xs k below in
      elim (cases_lt i place) [
        | inl l ↦ absurd (omega (arith, ones, one_more (λ b. b) xs i at one.here, more_before (λ b. b) xs (i + 1) place (omega arith) (omega arith)))
        | inr l ↦ elim (cases_lt place i) [
          | inl m ↦ omega (arith, one_more not xs place inside (ap not here), more_before not xs (place + 1) i (omega arith) (omega arith))
          | inr m ↦ absurd (apart i one.here (omega arith))
        ]
      ]

-- where there are at most as many zeros, no high part is above
pub no_later : (xs : List Bool) (high k : ℕ) → count_by not xs ≤ high → k < length (ones_of xs) → high_part xs k ≤ high
no_later xs high k few below =
    let one = one_numbered xs k below in
    let i = get_or (ones_of xs) k 0 in
    let at = one.inside in
    let value = high_is_zeros xs k below in
    omega (arith, more_before not xs i (length xs) (omega arith) (omega arith), before_end not xs (length xs) refl)

-- ---- the first zero from an index on

-- where no zero is between two indices, as many are before both
zeros_kept : (xs : List Bool) (from upto : ℕ) → from ≤ upto → upto ≤ length xs → ((j : ℕ) → from ≤ j → j < upto → slice_get xs j ≡ Some true) → zeros_before xs upto ≡ zeros_before xs from
zeros_kept xs from upto h l set =
    let none = places_none not false refl refl xs from upto (record { each = λ j a b. get_or_from_slice_get xs j true false (set j a b) }) in
    omega (arith, parted not xs from upto h l, places_count not xs from upto h l, ap length none)

module _ (xs : List Bool) (from high : ℕ) (inside : from ≤ length xs) (zeros : zeros_before xs from ≡ high) where
  -- ones between two zeros change no count of zeros
  pub next_zeros : (place : ℕ) → from ≤ place → slice_get xs place ≡ Some false → ((j : ℕ) → from ≤ j → j < place → slice_get xs j ≡ Some true) → zeros_before xs place ≡ high
  next_zeros place h found set = zeros_kept xs from place h (let l = slice_get_within xs place false found in omega arith) set ∙ zeros

  -- ones up to the end leave the count of zeros
  pub last_zeros : ((j : ℕ) → from ≤ j → j < length xs → slice_get xs j ≡ Some true) → count_by not xs ≡ high
  last_zeros set = sym (before_end not xs (length xs) refl) ∙ zeros_kept xs from (length xs) inside (omega arith) set ∙ zeros

-- all ones and all zeros
pub whole_count : (xs : List Bool) → length (ones_of xs) + count_by not xs ≡ length xs
whole_count xs =
    let all = as_many (λ b. b) xs (length xs) (omega arith) in
    let zeros = before_end not xs (length xs) refl in
    omega (arith, parts_before xs (length xs) (omega arith))

-- the ones before the end are all ones
pub ones_at_end : (xs : List Bool) (n : ℕ) → n ≡ length xs → ones_before xs n ≡ length (ones_of xs)
ones_at_end xs n is = ap (ones_before xs) is ∙ sym (as_many (λ b. b) xs (length xs) (omega arith))

-- before the one of a number with these high bits there are as many ones as its index says
pub ones_of_same : (xs : List Bool) (k high : ℕ) → k < length (ones_of xs) → high_part xs k ≡ high → (ones_before xs (k + high) ≡ k) × (k + high ≤ length xs)
ones_of_same xs k high h part =
    let one = one_numbered xs k h in
    let at : get_or (ones_of xs) k 0 ≡ k + high = omega (arith, number_of_one xs k h) in
    let inside = one.inside in
    (ap (ones_before xs) (sym at) ∙ one.before, omega arith)

-- ---- the numbers with as many high bits

-- the zero of a high part ends the numbers up to it
pub upto_place : (xs : List Bool) (h place : ℕ) → slice_get xs place ≡ Some false → zeros_before xs place ≡ h → IsUptoHigh xs h (place - h)
upto_place xs h place found zeros =
    let inside = slice_get_within xs place false found in
    let here = get_or_from_slice_get xs place false false found in
    let parts = parts_before xs place (omega arith) in
    let back : place - h + h ≡ place = omega arith in
    record {
      within = few_ones xs h place inside here zeros;
      before = ones_sooner xs h place inside here zeros;
      after = ones_later xs h place inside here zeros;
      next = let same = ap (ones_before xs) back in omega arith;
      reached = omega arith;
    }

-- where no zero is left, all numbers are up to this high part
pub upto_end : (xs : List Bool) (h : ℕ) → count_by not xs ≡ h → IsUptoHigh xs h (length (ones_of xs))
upto_end xs h zeros =
    let whole = whole_count xs in
    record {
      within = omega arith;
      before = λ k l. no_later xs h k (omega arith) l;
      after = λ k a b. absurd (omega arith);
      next = ones_at_end xs (length (ones_of xs) + h) (omega arith);
      reached = omega arith;
    }

-- from a zero on
pub same_from : (xs : List Bool) (h place end : ℕ) → 0 < h → slice_get xs place ≡ Some false → zeros_before xs place ≡ h - 1 → IsUptoHigh xs h end → place + 1 ≤ end + h → AreSameHigh xs h (place + 1 - h) end
same_from xs h place end some found zeros upto begins =
    let first = upto_place xs (h - 1) place found zeros in
    let inside = slice_get_within xs place false found in
    let parts = parts_before xs place (omega arith) in
    record {
      ordered = omega arith;
      before = λ k l. omega (arith, first.before k (omega arith));
      same = λ k a b. let within = upto.within in omega (arith, upto.before k b, first.after k (omega arith) (omega arith));
      upto = upto;
    }

-- a zero passed raises the count of zeros by one
pub zeros_after : (xs : List Bool) (place h : ℕ) → slice_get xs place ≡ Some false → zeros_before xs place ≡ h → zeros_before xs (place + 1) ≡ h + 1
zeros_after xs place h found zeros = one_more not xs place (slice_get_within xs place false found) (ap not (get_or_from_slice_get xs place false false found)) ∙ ap (λ n. n + 1) zeros

-- before each of them, and the first after them, there are as many ones as its index says
pub next_stands : (xs : List Bool) (h start end k : ℕ) → AreSameHigh xs h start end → start ≤ k → k ≤ end → (ones_before xs (k + h) ≡ k) × (k + h ≤ length xs)
next_stands xs h start end k same a b = elim (cases_lt k end) [
  | inl l ↦ let within = same.upto.within in ones_of_same xs k h (omega arith) (same.same k a l)
  | inr l ↦
      let e : k ≡ end = omega arith in
      let reached = same.upto.reached in
      (ap (λ n. ones_before xs (n + h)) e ∙ same.upto.next ∙ sym e, omega arith)
]

-- ---- one more one

same_places : (xs ys : List Bool) (lo n : ℕ) → ((j : ℕ) → lo ≤ j → j < lo + n → get_or xs j false ≡ get_or ys j false) → filter (λ j. get_or xs j false) (range_with_len lo n) ≡ filter (λ j. get_or ys j false) (range_with_len lo n)
same_places xs ys lo zero h = refl
same_places xs ys lo (suc n) h =
    let rest = same_places xs ys (lo + 1) n (λ j a b. h j (omega arith) (omega arith)) in
    ap (λ b. cond b (lo ∷ filter (λ j. get_or xs j false) (range_with_len (lo + 1) n)) (filter (λ j. get_or xs j false) (range_with_len (lo + 1) n))) (h lo (omega arith) (omega arith))
    ∙ ap (λ l. cond (get_or ys lo false) (lo ∷ l) l) rest

-- a list whose items from an index on are false has all its ones before that
sooner : (xs : List Bool) (p : ℕ) → p ≤ length xs → ((j : ℕ) → p ≤ j → get_or xs j false ≡ false) → ones_of xs ≡ filter (λ j. get_or xs j false) (range_with_len 0 p)
sooner xs p h clear =
    let test : ℕ → Bool = λ j. get_or xs j false in
    let whole : length xs ≡ p + (length xs - p) = omega arith in
    let first : List ℕ = filter test (range_with_len 0 p) in
    let none : filter test (range_with_len (0 + p) (length xs - p)) ≡ [] =
    ap (λ k. filter test (range_with_len k (length xs - p))) (let z : 0 + p ≡ p = omega arith in z)
    ∙ places_none (λ b. b) true refl refl xs p (length xs) (record { each = λ j a b. clear j a }) in
    ap (λ n. filter test (range_with_len 0 n)) whole ∙ ap (filter test) (ranges_joined 0 p (length xs - p))
    ∙ filter-append test (range_with_len 0 p) (range_with_len (0 + p) (length xs - p)) ∙ ap (λ l. first ++ l) none ∙ append-nil first

-- an index after all ones is set
pub one_set : (xs : List Bool) (p : ℕ) → p < length xs → ((j : ℕ) → p ≤ j → get_or xs j false ≡ false) → ones_of (set xs p true) ≡ ones_of xs ++ p ∷ []
one_set xs p h clear =
    let ys : List Bool = set xs p true in
    let size : length ys ≡ length xs = length-set xs p true in
    let here : get_or ys p false ≡ true = get_or-set_same xs p true false h in
    let below : filter (λ j. get_or ys j false) (range_with_len 0 p) ≡ ones_of xs =
    same_places ys xs 0 p (λ j a b. get_or-set_other xs p j true false (λ e. absurd (omega arith))) ∙ sym (sooner xs p (omega arith) clear) in
    let after : filter (λ j. get_or ys j false) (range_with_len (p + 1) (length ys - (p + 1))) ≡ [] =
    places_none (λ b. b) true refl refl ys (p + 1) (length ys) (record { each = λ j a b. get_or-set_other xs p j true false (λ e. absurd (omega arith)) ∙ clear j (omega arith) }) in
    around (λ b. b) ys p (omega arith) here ∙ ap (λ l. l ++ p ∷ filter (λ j. get_or ys j false) (range_with_len (p + 1) (length ys - (p + 1)))) below ∙ ap (λ l. ones_of xs ++ p ∷ l) after
