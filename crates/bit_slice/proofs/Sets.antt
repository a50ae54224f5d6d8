-- Two lists of bits as sets of the indices of their true items.
use Rattle.std.proofs.Common.{◌≡◌, ◌≢◌, ◌↔◌, ℕ, zero, suc, ◌+◌, ◌-◌, ◌*◌, ◌<◌, ◌≤◌, Bool, true, false, not, ◌&&◌, ◌||◌, cond, if◌then◌else◌, IsTrue, eqb, List, [], ◌∷◌, length, drop, get_or, count_by, slice_get, slice_range, Some, refl, sym, ◌∙◌, ap, inl, inr, arith}
use Rattle.std.specs.Prelude.{EachIndex, SomeIndex, min}
use Rattle.std.specs.List.{list_any}
use Rattle.std.proofs.lemmas.Bool.{cases_lt, true≢false}
use Rattle.std.proofs.lemmas.Bool.Decides.{eqb_tells}
use Rattle.std.proofs.lemmas.List.{ext_get_or, get_or_past, take_all, length-drop}
use Rattle.std.proofs.lemmas.List.Folds.{list_any-append}
use Rattle.std.proofs.lemmas.List.Sums.{sum_by-cons}
use Rattle.std.proofs.lemmas.Option.{get_or_from_slice_get}
use Rattle.std.specs.Simd.Lanes.{zip2}
use Rattle.std.proofs.lemmas.Simd.{get_or-zip2, length-zip2}
use Rattle.bit_addressing.specs.Row.{number_of}
use Rattle.bit_addressing.proofs.Chunks.{has_number, number_from_bits}
use Rattle.bit_addressing.specs.Bits.{has_bit}
use Rattle.bit_addressing.proofs.Words.{has_none}
use Rattle.bit_rows.proofs.Counts.{counted_next}
use Rattle.bit_addressing.proofs.lists.Shown.{length-between, get_or-run, length-run}
use Rattle.bit_slice.proofs.Combining.{length-combined}
use Rattle.bit_slice.proofs.Counting.{told_false, told_true}
use Rattle.bit_slice.proofs.Found.{item_of_part, item_is}
use Rattle.bit_slice.proofs.Ranges.{item_combined}
use Rattle.bit_slice.proofs.Shown.{run_none}
use Rattle.bit_addressing.proofs.Runs.{slices_joined}
use Rattle.bit_slice.specs.Operators.{combined, and_of, or_of, xor_of, and_not_of}

abbrev ones : List Bool → ℕ
ones xs = count_by (λ b. b) xs

abbrev some_true : List Bool → Bool
some_true xs = list_any (λ b. b) xs

-- a conjunction with false is false
pub and_false : (x : Bool) → (x && false) ≡ false
and_false true = refl
and_false false = refl

-- ---- lists with no item that is true, and numbers of them

-- a list with no true bit has no true bit by the test
pub none_true : (ms : List Bool) → ((k : ℕ) → get_or ms k false ≡ false) → some_true ms ≡ false
none_true [] h = refl
none_true (true ∷ ms) h = h 0
none_true (false ∷ ms) h = none_true ms (λ k. h (suc k))

-- a list with no true bit has no ones
pub none_counted : (ms : List Bool) → ((k : ℕ) → get_or ms k false ≡ false) → ones ms ≡ 0
none_counted [] h = refl
none_counted (true ∷ ms) h = absurd (true≢false (h 0))
none_counted (false ∷ ms) h = omega (arith, sum_by-cons (λ b. cond b 1 0) false ms, none_counted ms (λ k. h (suc k)))

none_at : (ms : List Bool) → some_true ms ≡ false → (k : ℕ) → get_or ms k false ≡ false
none_at [] e k = refl
none_at (true ∷ ms) e k = absurd (true≢false e)
none_at (false ∷ ms) e zero = refl
none_at (false ∷ ms) e (suc k) = none_at ms e k

-- without a true bit each index has false
pub not_any_index : (xs : List Bool) (b : Bool) → b ≡ some_true xs → (IsTrue b ↔ SomeIndex xs (λ i. slice_get xs i ≡ Some true)) → IsTrue (not b) ↔ EachIndex xs (λ i. slice_get xs i ≡ Some false)
not_any_index xs true e h = told_false _ (λ each. let s = h.0 refl in true≢false (sym (get_or_from_slice_get xs s.0 true false s.2) ∙ get_or_from_slice_get xs s.0 false false (each s.0 s.1)))
not_any_index xs false e h = told_true _ (λ i inside. item_is xs i false inside (none_at xs (sym e) i))

-- a chunk whose number is 0 has no true bit
pub number_none : (ms : List Bool) → number_of ms ≡ 0 → some_true ms ≡ false
number_none ms e = none_true ms (λ k. sym (has_number ms k) ∙ ap (λ n. has_bit n k) e ∙ has_none k)

some_where : (ms : List Bool) (b : Bool) → some_true ms ≡ b → length ms ≤ 64 → number_of ms ≢ 0 → some_true ms ≡ true
some_where ms true e few h = e
some_where ms false e few h = absurd (h (sym (number_from_bits 0 ms (omega arith) few (λ i l. has_none i ∙ sym (none_at ms e i)))))

-- a chunk whose number is not 0 has a true bit
pub number_some : (ms : List Bool) → length ms ≤ 64 → number_of ms ≢ 0 → some_true ms ≡ true
number_some ms few h = some_where ms (some_true ms) refl few h

-- a number of up to 64 items tells whether one of them is true
pub number_tells : (ms : List Bool) (x : ℕ) → length ms ≤ 64 → x ≡ number_of ms → not (eqb x 0) ≡ some_true ms
number_tells ms x few is = elim (eqb_tells x 0) [
  | inl e ↦ ap not e.0 ∙ sym (number_none ms (sym is ∙ e.1))
  | inr e ↦ ap not e.0 ∙ sym (number_some ms few (λ none. e.1 (is ∙ none)))
]

-- ---- a run and the one after it

-- two adjoining parts have a true bit where either has
pub any_joined : (cs : List Bool) (at upto : ℕ) → at ≤ upto → upto ≤ length cs → some_true (slice_range cs 0 upto) ≡ (some_true (slice_range cs 0 at) || some_true (slice_range cs at upto))
any_joined cs at upto h l = ap some_true (sym (slices_joined cs 0 at upto (omega arith) h l)) ∙ list_any-append (λ b. b) (slice_range cs 0 at) (slice_range cs at upto)

-- a true bit of the front is one of the whole
pub any_up_to : (cs : List Bool) (at upto : ℕ) → at ≤ upto → upto ≤ length cs → some_true (slice_range cs 0 at) ≡ true → some_true (slice_range cs 0 upto) ≡ true
any_up_to cs at upto h l e = any_joined cs at upto h l ∙ ap (λ b. b || some_true (slice_range cs at upto)) e

-- ---- what is made of two lists, by parts

take_past : (ys : List Bool) (k : ℕ) → slice_range ys k (length ys) ≡ drop k ys
take_past ys k = take_all (length ys - k) (drop k ys) (omega (arith, length-drop k ys))

drop_past : (ys : List Bool) (k : ℕ) → length ys ≤ k → drop k ys ≡ []
drop_past [] zero h = refl
drop_past [] (suc k) h = refl
drop_past (y ∷ ys) zero h = absurd (omega arith)
drop_past (y ∷ ys) (suc k) h = drop_past ys k (omega arith)

module _ (f : Bool → Bool → Bool) (xs ys : List Bool) where
  abbrev made : List Bool
  made = combined f xs ys

  -- an item of a part, as what is made of the items of both parts
  pub pair_bit : (at n i : ℕ) → f false false ≡ false → at + n ≤ length xs → at + n ≤ length ys
      → f (get_or (slice_range xs at (at + n)) i false) (get_or (slice_range ys at (at + n)) i false) ≡ get_or (slice_range made at (at + n)) i false
  pair_bit at n i quiet here there =
      let long = length-combined f xs ys in
      elim (cases_lt i n) [
        | inl l ↦ ap (λ b. f b (get_or (slice_range ys at (at + n)) i false)) (get_or-run xs at n i l) ∙ ap (f (get_or xs (at + i) false)) (get_or-run ys at n i l)
            ∙ sym (item_combined f xs ys (at + i) (omega arith)) ∙ sym (get_or-run made at n i l)
        | inr l ↦
            let a : length (slice_range xs at (at + n)) ≡ n = length-run xs at n here in
            let b : length (slice_range ys at (at + n)) ≡ n = length-run ys at n there in
            let c : length (slice_range made at (at + n)) ≡ n = length-run made at n (omega arith) in
            ap (λ z. f z (get_or (slice_range ys at (at + n)) i false)) (get_or_past (slice_range xs at (at + n)) i false (omega arith))
            ∙ ap (f false) (get_or_past (slice_range ys at (at + n)) i false (omega arith)) ∙ quiet ∙ sym (get_or_past (slice_range made at (at + n)) i false (omega arith))
      ]

  -- what is made of the items of two parts is a part of what is made of both lists
  pub pair_run : (at n : ℕ) → f false false ≡ false → at + n ≤ length xs → at + n ≤ length ys → zip2 f (slice_range xs at (at + n)) (slice_range ys at (at + n)) ≡ slice_range made at (at + n)
  pair_run at n quiet here there =
      let long = length-combined f xs ys in
      let a : length (slice_range xs at (at + n)) ≡ n = length-run xs at n here in
      let b : length (slice_range ys at (at + n)) ≡ n = length-run ys at n there in
      let c : length (slice_range made at (at + n)) ≡ n = length-run made at n (omega arith) in
      let size = length-zip2 f (slice_range xs at (at + n)) (slice_range ys at (at + n)) (a ∙ sym b) in
      ext_get_or false (zip2 f (slice_range xs at (at + n)) (slice_range ys at (at + n))) (slice_range made at (at + n)) (size ∙ a ∙ sym c)
      (λ i h. get_or-zip2 f (slice_range xs at (at + n)) (slice_range ys at (at + n)) i false false false (omega arith) (omega arith) ∙ pair_bit at n i quiet here there)

  -- an item that the right is too short for
  past_item : (n k : ℕ) → n ≡ min (length xs) (length ys) → n + k < length xs → get_or (slice_range made n (length xs)) k false ≡ f (get_or xs (n + k) false) false
  past_item n k least h =
      item_of_part made n (length xs) k (omega arith) ∙ item_combined f xs ys (n + k) h ∙ ap (f (get_or xs (n + k) false)) (get_or_past ys (n + k) false (omega arith))

  -- past the other list's end a combination that keeps this one's bits is this one
  pub rest_kept : (n : ℕ) → ((x : Bool) → f x false ≡ x) → n ≡ min (length xs) (length ys) → slice_range made n (length xs) ≡ slice_range xs n (length xs)
  rest_kept n keeps least =
      let long = length-combined f xs ys in
      let a : length (slice_range made n (length xs)) ≡ length xs - n = length-between made n (length xs) (omega arith) in
      let b : length (slice_range xs n (length xs)) ≡ length xs - n = length-between xs n (length xs) (omega arith) in
      ext_get_or false (slice_range made n (length xs)) (slice_range xs n (length xs)) (omega arith)
      (λ k h. past_item n k least (omega arith) ∙ keeps (get_or xs (n + k) false) ∙ sym (item_of_part xs n (length xs) k (omega arith)))

  rest_clear : (n : ℕ) → ((x : Bool) → f x false ≡ false) → n ≡ min (length xs) (length ys) → (k : ℕ) → get_or (slice_range made n (length xs)) k false ≡ false
  rest_clear n clears least k =
      let long = length-combined f xs ys in
      let a : length (slice_range made n (length xs)) ≡ length xs - n = length-between made n (length xs) (omega arith) in
      elim (cases_lt k (length xs - n)) [
        | inl l ↦ past_item n k least (omega arith) ∙ clears (get_or xs (n + k) false)
        | inr l ↦ get_or_past (slice_range made n (length xs)) k false (omega arith)
      ]

  made_whole : slice_range made 0 (length xs) ≡ made
  made_whole = let long = length-combined f xs ys in take_all (length xs - 0) made (omega arith)

  -- the ones of a combination are those of its front and of its rest
  pub count_split : (n : ℕ) → n ≤ length xs → ones made ≡ ones (slice_range made 0 n) + ones (slice_range made n (length xs))
  count_split n h =
      let long = length-combined f xs ys in
      sym (counted_next made 0 n (length xs) (ones (slice_range made 0 n)) (ones (slice_range made n (length xs))) (omega arith) h (omega arith) refl refl ∙ ap ones made_whole)

  -- a combination that needs both has its ones in the common front
  pub count_front : (n : ℕ) → ((x : Bool) → f x false ≡ false) → n ≡ min (length xs) (length ys) → ones (slice_range made 0 n) ≡ ones made
  count_front n clears least =
      let none = none_counted (slice_range made n (length xs)) (rest_clear n clears least) in
      let split = count_split n (omega arith) in
      omega (arith, none, split)

  any_split : (n : ℕ) → n ≤ length xs → some_true made ≡ (some_true (slice_range made 0 n) || some_true (slice_range made n (length xs)))
  any_split n h =
      let long = length-combined f xs ys in
      ap some_true (sym (slices_joined made 0 n (length xs) (omega arith) h (omega arith) ∙ made_whole)) ∙ list_any-append (λ b. b) (slice_range made 0 n) (slice_range made n (length xs))

  or_none : (b : Bool) → b ≡ (b || false)
  or_none true = refl
  or_none false = refl

  -- a combination that needs both has a true bit only in the common front
  pub any_front : (n : ℕ) → ((x : Bool) → f x false ≡ false) → n ≡ min (length xs) (length ys) → some_true (slice_range made 0 n) ≡ some_true made
  any_front n clears least =
      or_none (some_true (slice_range made 0 n))
      ∙ ap (λ b. some_true (slice_range made 0 n) || b) (sym (none_true (slice_range made n (length xs)) (rest_clear n clears least)))
      ∙ sym (any_split n (omega arith))

  -- a combination that keeps this list's bits has a true bit in the front or in this list's rest
  pub any_kept : (n : ℕ) → ((x : Bool) → f x false ≡ x) → n ≡ min (length xs) (length ys) → (some_true (slice_range made 0 n) || some_true (slice_range xs n (length xs))) ≡ some_true made
  any_kept n keeps least =
      ap (λ l. some_true (slice_range made 0 n) || some_true l) (sym (rest_kept n keeps least)) ∙ sym (any_split n (omega arith))

  -- what both have, what the left has alone, and what the right has past the left's end
  pub count_both : (n : ℕ) → ((x : Bool) → f x false ≡ x) → n ≡ min (length xs) (length ys)
      → (ones (slice_range made 0 n) + ones (slice_range xs n (length xs))) + ones (slice_range ys n (length ys)) ≡ ones made + ones (drop (length xs) ys)
  count_both n keeps least =
      let split = count_split n (omega arith) in
      let rest = ap ones (rest_kept n keeps least) in
      let past : ones (slice_range ys n (length ys)) ≡ ones (drop (length xs) ys) = elim (cases_lt (length xs) (length ys)) [
        | inl l ↦ let e : n ≡ length xs = omega arith in let all : length ys - n ≡ length ys - length xs = omega arith in
            ap (λ k. ones (slice_range ys k (length ys))) e ∙ ap ones (take_past ys (length xs))
        | inr l ↦ ap ones (run_none ys n (length ys) (omega arith)) ∙ ap ones (sym (drop_past ys (length xs) l))
      ] in
      omega (arith, split, rest, past)

  -- the three counts of `count_both`, of lists whose lengths are known
  pub counted_both : (len other n : ℕ) → length xs ≡ len → length ys ≡ other → ((x : Bool) → f x false ≡ x) → n ≡ min len other
      → (shared left right : ℕ) → shared ≡ ones (slice_range made 0 n) → left ≡ ones (slice_range xs n len) → right ≡ ones (slice_range ys n other)
      → (shared + left) + right ≡ ones made + ones (drop len ys)
  counted_both len other n long wide keeps least shared left right a b d =
      let sum = rw (long, wide) at (count_both n keeps (omega (arith, long, wide, least))) in
      omega (arith, sum, a, b, d)

  -- what both have and what the left has alone, of a list whose length is known
  pub counted_left : (len n : ℕ) → length xs ≡ len → ((x : Bool) → f x false ≡ x) → n ≡ min len (length ys)
      → (shared left : ℕ) → shared ≡ ones (slice_range made 0 n) → left ≡ ones (slice_range xs n len) → shared + left ≡ ones made
  counted_left len n long keeps least shared left a b =
      let split = rw long at (count_split n (omega (arith, long, least))) in
      let rest = rw long at (ap ones (rest_kept n keeps (omega (arith, long, least)))) in
      omega (arith, split, rest, a, b)

-- ---- laws of the counts

abbrev bit : Bool → ℕ
bit b = cond b 1 0

step_or : (x y : Bool) → bit (x || y) + bit (x && y) ≡ bit x + bit y
step_or true true = refl
step_or true false = refl
step_or false true = refl
step_or false false = refl

step_xor : (x y : Bool) → bit (if x then not y else y) + 2 * bit (x && y) ≡ bit x + bit y
step_xor true true = refl
step_xor true false = refl
step_xor false true = refl
step_xor false false = refl

one_more : (x : Bool) (xs : List Bool) → ones (x ∷ xs) ≡ bit x + ones xs
one_more x xs = sum_by-cons (λ b. cond b 1 0) x xs

-- the ones of `or` and of `and` are those of both lists
pub or_and : (xs ys : List Bool) → (ones (or_of xs ys) + ones (drop (length xs) ys)) + ones (and_of xs ys) ≡ ones xs + ones ys
or_and [] ys = omega arith
or_and (x ∷ xs) [] =
    let a : ones (or_of (x ∷ xs) []) ≡ bit (x || false) + ones (or_of xs []) = one_more (x || false) (or_of xs []) in
    let b : ones (and_of (x ∷ xs) []) ≡ bit (x && false) + ones (and_of xs []) = one_more (x && false) (and_of xs []) in
    let z : ones (drop (length xs) []) ≡ ones (drop (suc (length xs)) []) = ap ones (drop_past [] (length xs) (omega arith) ∙ sym (drop_past [] (suc (length xs)) (omega arith))) in
    omega (arith, a, b, z, one_more x xs, step_or x false, or_and xs [])
or_and (x ∷ xs) (y ∷ ys) =
    let a : ones (or_of (x ∷ xs) (y ∷ ys)) ≡ bit (x || y) + ones (or_of xs ys) = one_more (x || y) (or_of xs ys) in
    let b : ones (and_of (x ∷ xs) (y ∷ ys)) ≡ bit (x && y) + ones (and_of xs ys) = one_more (x && y) (and_of xs ys) in
    omega (arith, a, b, one_more x xs, one_more y ys, step_or x y, or_and xs ys)

-- the ones of `xor` and twice those of `and` are those of both lists
pub xor_and : (xs ys : List Bool) → (ones (xor_of xs ys) + ones (drop (length xs) ys)) + 2 * ones (and_of xs ys) ≡ ones xs + ones ys
xor_and [] ys = omega arith
xor_and (x ∷ xs) [] =
    let a : ones (xor_of (x ∷ xs) []) ≡ bit (if x then not false else false) + ones (xor_of xs []) = one_more (if x then not false else false) (xor_of xs []) in
    let b : ones (and_of (x ∷ xs) []) ≡ bit (x && false) + ones (and_of xs []) = one_more (x && false) (and_of xs []) in
    let z : ones (drop (length xs) []) ≡ ones (drop (suc (length xs)) []) = ap ones (drop_past [] (length xs) (omega arith) ∙ sym (drop_past [] (suc (length xs)) (omega arith))) in
    omega (arith, a, b, z, one_more x xs, step_xor x false, xor_and xs [])
xor_and (x ∷ xs) (y ∷ ys) =
    let a : ones (xor_of (x ∷ xs) (y ∷ ys)) ≡ bit (if x then not y else y) + ones (xor_of xs ys) = one_more (if x then not y else y) (xor_of xs ys) in
    let b : ones (and_of (x ∷ xs) (y ∷ ys)) ≡ bit (x && y) + ones (and_of xs ys) = one_more (x && y) (and_of xs ys) in
    omega (arith, a, b, one_more x xs, one_more y ys, step_xor x y, xor_and xs ys)

-- ---- items by index

true_item : (ms : List Bool) (k : ℕ) → get_or ms k false ≡ true → slice_get ms k ≡ Some true
true_item ms k e = elim (cases_lt k (length ms)) [
  | inl l ↦ item_is ms k true l e
  | inr l ↦ absurd (true≢false (sym e ∙ get_or_past ms k false l))
]

in_list : (ms : List Bool) (k : ℕ) → get_or ms k false ≡ true → k < length ms
in_list ms k e = elim (cases_lt k (length ms)) [
  | inl l ↦ l
  | inr l ↦ absurd (true≢false (sym e ∙ get_or_past ms k false l))
]

made_at : (f : Bool → Bool → Bool) → ((b : Bool) → f false b ≡ false) → (xs ys : List Bool) (k : ℕ) → get_or (combined f xs ys) k false ≡ f (get_or xs k false) (get_or ys k false)
made_at f clears xs ys k =
    let long = length-combined f xs ys in
    elim (cases_lt k (length xs)) [
      | inl l ↦ item_combined f xs ys k l
      | inr l ↦ get_or_past (combined f xs ys) k false (omega (arith, long, l)) ∙ sym (ap (λ a. f a (get_or ys k false)) (get_or_past xs k false l) ∙ clears (get_or ys k false))
    ]

some_at : (ms : List Bool) → some_true ms ≡ true → (k : ℕ) × (get_or ms k false ≡ true)
some_at [] e = absurd (true≢false (sym e))
some_at (true ∷ ms) e = (0, refl)
some_at (false ∷ ms) e = let s = some_at ms e in (suc s.0, s.1)

some_from : (ms : List Bool) (k : ℕ) → get_or ms k false ≡ true → some_true ms ≡ true
some_from [] k e = absurd (true≢false (sym e))
some_from (true ∷ ms) k e = refl
some_from (false ∷ ms) zero e = absurd (true≢false (sym e))
some_from (false ∷ ms) (suc k) e = some_from ms k e

is_not : (b : Bool) → not b ≡ true → b ≡ false
is_not false e = refl
is_not true e = sym e

-- ---- subsets

lacks : (a b : Bool) → (a && not b) ≡ false → a ≡ true → b ≡ true
lacks true true e h = refl
lacks true false e h = absurd (true≢false e)
lacks false b e h = absurd (true≢false (sym h))

lacks_none : (a b : Bool) → (a ≡ true → b ≡ true) → (a && not b) ≡ false
lacks_none true true h = refl
lacks_none true false h = sym (h refl)
lacks_none false b h = refl

-- the subset test by indices
pub subset_index : (xs ys : List Bool) (r : Bool) → r ≡ not (some_true (and_not_of xs ys)) → IsTrue r ↔ ((j : ℕ) → slice_get xs j ≡ Some true → slice_get ys j ≡ Some true)
subset_index xs ys r is = (
  λ t j h. true_item ys j (lacks (get_or xs j false) (get_or ys j false)
      (sym (made_at (λ x y. x && not y) (λ b. refl) xs ys j) ∙ none_at (and_not_of xs ys) (is_not (some_true (and_not_of xs ys)) (sym is ∙ t)) j)
      (get_or_from_slice_get xs j true false h)),
  λ each. is ∙ ap not (none_true (and_not_of xs ys) (λ k. made_at (λ x y. x && not y) (λ b. refl) xs ys k
      ∙ lacks_none (get_or xs k false) (get_or ys k false) (λ a. get_or_from_slice_get ys k true false (each k (true_item xs k a))))),
)

kept_and : (xs ys : List Bool) → some_true (and_not_of xs ys) ≡ false → and_of xs ys ≡ xs
kept_and [] ys e = refl
kept_and (true ∷ xs) [] e = absurd (true≢false e)
kept_and (false ∷ xs) [] e = ap (λ l. false ∷ l) (kept_and xs [] e)
kept_and (true ∷ xs) (true ∷ ys) e = ap (λ l. true ∷ l) (kept_and xs ys e)
kept_and (true ∷ xs) (false ∷ ys) e = absurd (true≢false e)
kept_and (false ∷ xs) (y ∷ ys) e = ap (λ l. false ∷ l) (kept_and xs ys e)

same_and : (a b : Bool) → (a && b) ≡ a → (a && not b) ≡ false
same_and true true e = refl
same_and true false e = sym e
same_and false b e = refl

-- a list is a subset exactly where `and` with the other is the list
pub subset_and : (xs ys : List Bool) (r : Bool) → r ≡ not (some_true (and_not_of xs ys)) → IsTrue r ↔ (and_of xs ys ≡ xs)
subset_and xs ys r is = (
  λ t. kept_and xs ys (is_not (some_true (and_not_of xs ys)) (sym is ∙ t)),
  λ e. is ∙ ap not (none_true (and_not_of xs ys) (λ k. made_at (λ x y. x && not y) (λ b. refl) xs ys k
      ∙ same_and (get_or xs k false) (get_or ys k false) (sym (made_at (λ x y. x && y) (λ b. refl) xs ys k) ∙ ap (λ l. get_or l k false) e))),
)

-- ---- common items

both_true : (a b : Bool) → (a && b) ≡ true → (a ≡ true) × (b ≡ true)
both_true true b e = (refl, e)
both_true false b e = absurd (true≢false (sym e))

never_both : (a b : Bool) → (a ≡ true → b ≡ true → ⊥) → (a && b) ≡ false
never_both true true h = absurd (h refl refl)
never_both true false h = refl
never_both false b h = refl

-- the test for a common one by indices
pub common_index : (xs ys : List Bool) (r : Bool) → r ≡ some_true (and_of xs ys) → IsTrue r ↔ SomeIndex xs (λ j. (slice_get xs j ≡ Some true) × (slice_get ys j ≡ Some true))
common_index xs ys r is = (
  λ t. (let s = some_at (and_of xs ys) (sym is ∙ t) in
      let k = s.0 in
      let p = both_true (get_or xs k false) (get_or ys k false) (sym (made_at (λ x y. x && y) (λ b. refl) xs ys k) ∙ s.1) in
      (k, in_list xs k p.0, (true_item xs k p.0, true_item ys k p.1))),
  λ s. is ∙ some_from (and_of xs ys) s.0 (made_at (λ x y. x && y) (λ b. refl) xs ys s.0
      ∙ ap (λ a. a && get_or ys s.0 false) (get_or_from_slice_get xs s.0 true false s.2.0) ∙ get_or_from_slice_get ys s.0 true false s.2.1),
)

-- the disjoint test by indices
pub apart_index : (xs ys : List Bool) (r : Bool) → r ≡ not (some_true (and_of xs ys)) → IsTrue r ↔ ((j : ℕ) → slice_get xs j ≡ Some true → slice_get ys j ≢ Some true)
apart_index xs ys r is = (
  λ t j h k. true≢false (sym (some_from (and_of xs ys) j (made_at (λ x y. x && y) (λ b. refl) xs ys j
      ∙ ap (λ a. a && get_or ys j false) (get_or_from_slice_get xs j true false h) ∙ get_or_from_slice_get ys j true false k))
      ∙ is_not (some_true (and_of xs ys)) (sym is ∙ t)),
  λ each. is ∙ ap not (none_true (and_of xs ys) (λ k. made_at (λ x y. x && y) (λ b. refl) xs ys k
      ∙ never_both (get_or xs k false) (get_or ys k false) (λ a b. each k (true_item xs k a) (true_item ys k b)))),
)

-- beside false, or keeps an item
pub or_keeps : (x : Bool) → (x || false) ≡ x
or_keeps true = refl
or_keeps false = refl

-- beside false, xor keeps an item
pub xor_keeps : (x : Bool) → (if x then not false else false) ≡ x
xor_keeps true = refl
xor_keeps false = refl

-- ---- the front of two runs that are combined

module _ (f : Bool → Bool → Bool) (rows others : List Bool) (head len other count end : ℕ) (room : head + len ≤ length rows) (inside : end ≤ len) (enough : end ≤ count) where
  abbrev both : List Bool
  both = combined f (slice_range rows head (head + len)) (slice_range others other (other + count))

  -- the front has `end` bits
  length-front : length (slice_range both 0 end) ≡ end
  length-front =
      let size = length-combined f (slice_range rows head (head + len)) (slice_range others other (other + count)) ∙ length-run rows head len room in
      let is : length (slice_range both 0 end) ≡ end - 0 = length-between both 0 end (omega (arith, size, inside)) in
      omega (arith, is)

  -- a bit of the front is made of the bits of the two rows at its place
  item_of_front : (k : ℕ) → k < end → get_or (slice_range both 0 end) k false ≡ f (get_or rows (head + k) false) (get_or others (other + k) false)
  item_of_front k h =
      let at : 0 + k ≡ k = omega arith in
      let size = length-run rows head len room in
      item_of_part both 0 end k (omega (arith, h)) ∙ ap (λ n. get_or both n false) at
      ∙ item_combined f (slice_range rows head (head + len)) (slice_range others other (other + count)) k (omega (arith, size, h, inside))
      ∙ ap (λ b. f b (get_or (slice_range others other (other + count)) k false)) (get_or-run rows head len k (omega (arith, h, inside)))
      ∙ ap (f (get_or rows (head + k) false)) (get_or-run others other count k (omega (arith, h, enough)))

  -- no bit is true that the first `end` bits of the runs make
  pub none_in_front : ((k : ℕ) → k < end → f (get_or rows (head + k) false) (get_or others (other + k) false) ≡ false) → some_true (slice_range both 0 end) ≡ false
  none_in_front none = none_true (slice_range both 0 end) (λ k. elim (cases_lt k end) [
    | inl h ↦ item_of_front k h ∙ none k h
    | inr h ↦ get_or_past (slice_range both 0 end) k false (omega (arith, length-front, h))
  ])

  -- the first `end` bits of each run make the first `end` bits of the runs combined
  pub front_of_runs : other + count ≤ length others → zip2 f (slice_range rows head (head + end)) (slice_range others other (other + end)) ≡ slice_range both 0 end
  front_of_runs wide =
      let xs : List Bool = slice_range rows head (head + end) in
      let ys : List Bool = slice_range others other (other + end) in
      let one : length xs ≡ end = length-run rows head end (omega (arith, room, inside)) in
      let two : length ys ≡ end = length-run others other end (omega (arith, wide, enough)) in
      let made : length (zip2 f xs ys) ≡ end = length-zip2 f xs ys (one ∙ sym two) ∙ one in
      ext_get_or false (zip2 f xs ys) (slice_range both 0 end) (made ∙ sym length-front) (λ k h.
      get_or-zip2 f xs ys k false false false (omega (arith, h, made, one)) (omega (arith, h, made, two))
      ∙ ap (λ b. f b (get_or ys k false)) (get_or-run rows head end k (omega (arith, h, made)))
      ∙ ap (f (get_or rows (head + k) false)) (get_or-run others other end k (omega (arith, h, made)))
      ∙ sym (item_of_front k (omega (arith, h, made))))
