-- The ascending list of a set's numbers, bit by bit.
use Rattle.std.proofs.Common.{◌≡◌, ◌≢◌, ℕ, zero, suc, ◌+◌, ◌-◌, ◌<◌, ◌≤◌, Bool, true, false, cond, List, [], ◌∷◌, ◌++◌, append-nil, get_or, set, length, min, refl, sym, ◌∙◌, ap, inl, inr, arith}
use Rattle.std.specs.Prelude.{◌↔◌, IsTrue}
use Rattle.std.specs.Cmp.{both_ways, unsigned_Decides}
use Rattle.std.specs.Cmp.Lexicographic.{pointwise_decides}
use Rattle.std.specs.List.{filter, range_with_len}
use Rattle.std.proofs.lemmas.Bool.{cases_lt, true≢false}
use Rattle.std.proofs.lemmas.List.{get_or_past}
use Rattle.std.proofs.lemmas.List.Elements.{filter-append}
use Rattle.bit_slice.specs.Places.{ones_of}
use Rattle.bit_slice.proofs.Places.{places_empty, places_none, ranges_joined}
use Rattle.bit_ranks.proofs.Parts.{from_index, ones_are}
use Rattle.bit_sets.specs.Compared.{same_numbers}
use Rattle.bit_sets.specs.NumberSet.{IsIn, numbers_between}
use Rattle.bit_sets.proofs.Members.{in_bit, out_bit}

-- a list without ones has no members
pub none_from : (i : ℕ) (xs : List Bool) → ((k : ℕ) → get_or xs k false ≡ false) → from_index i xs ≡ []
none_from i [] none = refl
none_from i (x ∷ xs) none = ap (λ b. cond b (i ∷ from_index (i + 1) xs) (from_index (i + 1) xs)) (none 0) ∙ none_from (i + 1) xs (λ k. none (suc k))

-- ---- equal lists of numbers are of the same members

same_from : (i : ℕ) (xs ys : List Bool) → ((k : ℕ) → get_or xs k false ≡ get_or ys k false) → from_index i xs ≡ from_index i ys
same_from i [] ys same = sym (none_from i ys (λ k. sym (same k)))
same_from i (x ∷ xs) [] same = none_from i (x ∷ xs) same
same_from i (x ∷ xs) (y ∷ ys) same = ap (λ b. cond b (i ∷ from_index (i + 1) xs) (from_index (i + 1) xs)) (same 0) ∙ ap (λ l. cond y (i ∷ l) l) (same_from (i + 1) xs ys (λ k. same (suc k)))

not_below : (i j : ℕ) (xs : List Bool) (l : List ℕ) → j < i → from_index i xs ≢ j ∷ l
not_below i j [] l low is = cc
not_below i j (true ∷ xs) l low is = let e : i ≡ j = cc in omega arith
not_below i j (false ∷ xs) l low is = not_below (i + 1) j xs l (omega arith) is

bits_from : (i : ℕ) (xs ys : List Bool) → from_index i xs ≡ from_index i ys → (k : ℕ) → get_or xs k false ≡ get_or ys k false
bits_from i [] [] is k = refl
bits_from i [] (true ∷ ys) is k = cc
bits_from i [] (false ∷ ys) is zero = refl
bits_from i [] (false ∷ ys) is (suc k) = bits_from (i + 1) [] ys is k
bits_from i (true ∷ xs) [] is k = cc
bits_from i (false ∷ xs) [] is zero = refl
bits_from i (false ∷ xs) [] is (suc k) = bits_from (i + 1) xs [] is k
bits_from i (true ∷ xs) (true ∷ ys) is zero = refl
bits_from i (true ∷ xs) (true ∷ ys) is (suc k) = bits_from (i + 1) xs ys (cc) k
bits_from i (true ∷ xs) (false ∷ ys) is k = absurd (not_below (i + 1) i ys (from_index (i + 1) xs) (omega arith) (sym is))
bits_from i (false ∷ xs) (true ∷ ys) is k = absurd (not_below (i + 1) i xs (from_index (i + 1) ys) (omega arith) is)
bits_from i (false ∷ xs) (false ∷ ys) is zero = refl
bits_from i (false ∷ xs) (false ∷ ys) is (suc k) = bits_from (i + 1) xs ys is k

-- lists with the same members have the same numbers, ascending
pub same_ones : (xs ys : List Bool) → ((k : ℕ) → IsIn xs k ↔ IsIn ys k) → ones_of xs ≡ ones_of ys
same_ones xs ys same =
    ones_are xs
    ∙ same_from 0 xs ys (λ k. both_ways (get_or xs k false) (get_or ys k false) (λ h. (in_bit ys k).0 ((same k).0 ((in_bit xs k).1 h))) (λ h. (in_bit xs k).0 ((same k).1 ((in_bit ys k).1 h))))
    ∙ sym (ones_are ys)

-- lists with the same numbers have the same members
pub same_members : (xs ys : List Bool) → ones_of xs ≡ ones_of ys → (k : ℕ) → IsIn xs k ↔ IsIn ys k
same_members xs ys is k =
    let bit = bits_from 0 xs ys (sym (ones_are xs) ∙ is ∙ ones_are ys) k in (
      (λ h. (in_bit ys k).1 (sym bit ∙ (in_bit xs k).0 h)),
      (λ h. (in_bit xs k).1 (bit ∙ (in_bit ys k).0 h)),
    )

-- a comparison that is true exactly for equal members compares the numbers
pub told_same : (b : Bool) (xs ys : List Bool) → (IsTrue b ↔ ((k : ℕ) → IsIn xs k ↔ IsIn ys k)) → b ≡ same_numbers xs ys
told_same b xs ys told =
    let decides = pointwise_decides unsigned_Decides (ones_of xs) (ones_of ys) in
    both_ways b (same_numbers xs ys) (λ h. decides.1 (same_ones xs ys (told.0 h))) (λ h. told.1 (same_members xs ys (decides.0 h)))

-- ---- the first and the last number taken out

first_from : (i n : ℕ) (xs : List Bool) → get_or xs n false ≡ true → ((k : ℕ) → k < n → get_or xs k false ≡ false) → from_index i xs ≡ (i + n) ∷ from_index i (set xs n false)
first_from i n [] here before = absurd (true≢false (sym here))
first_from i zero (x ∷ xs) here before =
    let z : i ≡ i + 0 = omega arith in
    ap (λ b. cond b (i ∷ from_index (i + 1) xs) (from_index (i + 1) xs)) here ∙ ap (λ j. j ∷ from_index (i + 1) xs) z
first_from i (suc n) (x ∷ xs) here before =
    let z : i + 1 + n ≡ i + suc n = omega arith in
    let none : x ≡ false = before 0 (omega arith) in
    let rest = from_index (i + 1) (set xs n false) in
    ap (λ b. cond b (i ∷ from_index (i + 1) xs) (from_index (i + 1) xs)) none
    ∙ first_from (i + 1) n xs here (λ k h. before (suc k) (omega arith))
    ∙ ap (λ j. j ∷ rest) z
    ∙ sym (ap (λ b. (i + suc n) ∷ cond b (i ∷ rest) rest) none)

last_from : (i n : ℕ) (xs : List Bool) → get_or xs n false ≡ true → ((k : ℕ) → n < k → get_or xs k false ≡ false) → from_index i xs ≡ from_index i (set xs n false) ++ (i + n) ∷ []
last_from i n [] here after = absurd (true≢false (sym here))
last_from i zero (x ∷ xs) here after =
    let z : i ≡ i + 0 = omega arith in
    let none = none_from (i + 1) xs (λ k. after (suc k) (omega arith)) in
    ap (λ b. cond b (i ∷ from_index (i + 1) xs) (from_index (i + 1) xs)) here
    ∙ ap (λ l. i ∷ l) none ∙ ap (λ j. j ∷ []) z ∙ sym (ap (λ l. l ++ (i + 0) ∷ []) none)
last_from i (suc n) (x ∷ xs) here after =
    let z : i + 1 + n ≡ i + suc n = omega arith in
    let rest = from_index (i + 1) (set xs n false) in
    ap (λ l. cond x (i ∷ l) l) (last_from (i + 1) n xs here (λ k h. after (suc k) (omega arith)))
    ∙ joined x rest ((i + 1 + n) ∷ [])
    ∙ ap (λ j. cond x (i ∷ rest) rest ++ j ∷ []) z
  where
    joined : (b : Bool) (l t : List ℕ) → cond b (i ∷ (l ++ t)) (l ++ t) ≡ cond b (i ∷ l) l ++ t
    joined true l t = refl
    joined false l t = refl

-- the first member taken out leaves the numbers after it
pub first_out : (xs : List Bool) (n : ℕ) → IsIn xs n → ((k : ℕ) → k < n → IsIn xs k → ⊥) → ones_of xs ≡ n ∷ ones_of (set xs n false)
first_out xs n here before =
    let z : 0 + n ≡ n = omega arith in
    ones_are xs ∙ first_from 0 n xs ((in_bit xs n).0 here) (λ k h. out_bit xs k (before k h)) ∙ ap (λ j. j ∷ from_index 0 (set xs n false)) z ∙ ap (λ l. n ∷ l) (sym (ones_are (set xs n false)))

-- the last member taken out leaves the numbers before it
pub last_out : (xs : List Bool) (n : ℕ) → IsIn xs n → ((k : ℕ) → n < k → IsIn xs k → ⊥) → ones_of xs ≡ ones_of (set xs n false) ++ n ∷ []
last_out xs n here after =
    let z : 0 + n ≡ n = omega arith in
    ones_are xs ∙ last_from 0 n xs ((in_bit xs n).0 here) (λ k h. out_bit xs k (after k h)) ∙ ap (λ j. from_index 0 (set xs n false) ++ j ∷ []) z ∙ ap (λ l. l ++ n ∷ []) (sym (ones_are (set xs n false)))

-- ---- the numbers of a part

-- from an index on there is no number
cut : (xs : List Bool) (a m b : ℕ) → a ≤ m → m ≤ b → length xs ≤ m → numbers_between xs a b ≡ numbers_between xs a m
cut xs a m b low high past =
    let e : b - a ≡ (m - a) + (b - m) = omega arith in
    let z : a + (m - a) ≡ m = omega arith in
    let none : numbers_between xs m b ≡ [] = places_none (λ b. b) true refl refl xs m b (record { each = λ j l h. get_or_past xs j false (omega arith) }) in
    ap (λ n. filter (λ i. get_or xs i false) (range_with_len a n)) e ∙ ap (filter (λ i. get_or xs i false)) (ranges_joined a (m - a) (b - m))
    ∙ filter-append (λ i. get_or xs i false) (range_with_len a (m - a)) (range_with_len (a + (m - a)) (b - m))
    ∙ ap (λ k. numbers_between xs a m ++ filter (λ i. get_or xs i false) (range_with_len k (b - m))) z
    ∙ ap (λ l. numbers_between xs a m ++ l) none ∙ append-nil (numbers_between xs a m)

-- a range and its part below the bound have the same numbers
pub clipped : (xs : List Bool) (a b c d : ℕ) → d ≡ min b (length xs) → c ≡ min a d → numbers_between xs c d ≡ numbers_between xs a b
clipped xs a b c d end start = elim (cases_lt (length xs) b) [
  | inl long ↦ elim (cases_lt a (length xs)) [
    | inl low ↦ (let e : c ≡ a = omega arith in let f : d ≡ length xs = omega arith in ap (λ i. numbers_between xs i d) e ∙ ap (numbers_between xs a) f ∙ sym (cut xs a (length xs) b (omega arith) (omega arith) (omega arith)))
    | inr past ↦ places_empty (λ b. b) xs c d (omega arith) ∙ sym (places_none (λ b. b) true refl refl xs a b (record { each = λ j l h. get_or_past xs j false (omega arith) }))
  ]
  | inr short ↦ elim (cases_lt a b) [
    | inl some ↦ (let e : c ≡ a = omega arith in let f : d ≡ b = omega arith in ap (λ i. numbers_between xs i d) e ∙ ap (numbers_between xs a) f)
    | inr none ↦ places_empty (λ b. b) xs c d (omega arith) ∙ sym (places_empty (λ b. b) xs a b none)
  ]
]
