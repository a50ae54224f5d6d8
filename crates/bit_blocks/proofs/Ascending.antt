-- Ascending lists of numbers: where a number has its place.
use Rattle.std.proofs.Common.{◌≡◌, ℕ, zero, suc, ◌+◌, ◌<◌, ◌≤◌, true, false, cond, ◌&&◌, ◌||◌, nat_eq, nat_lt, List, [], ◌∷◌, ◌++◌, drop, get_or, length, take, refl, sym, ◌∙◌, ap, subst, inl, inr, arith}
use Rattle.std.specs.List.Sorted.{IsNonDecreasingBy}
use Rattle.std.proofs.Math.Bool.{or-false}
use Rattle.std.proofs.Math.Dec.{leb-suc-suc}
use Rattle.std.proofs.lemmas.Bool.{cases_lt, cases_eq, lt-ltb, le-ltb, ne_eqb, eq-eqb}
use Rattle.bit_blocks.specs.Numbers.{AscendsIn, count_below, has}

-- a list that ascends from a number on ascends from each smaller one on
pub ascends_earlier : (from least upto : ℕ) (xs : List ℕ) → least ≤ from → AscendsIn from upto xs → AscendsIn least upto xs
ascends_earlier from least upto [] low h = h
ascends_earlier from least upto (x ∷ xs) low h = let first = h.0 in (omega arith, h.1, h.2)

-- and up to each greater one
pub ascends_further : (from upto most : ℕ) (xs : List ℕ) → upto ≤ most → AscendsIn from upto xs → AscendsIn from most xs
ascends_further from upto most [] high h = h
ascends_further from upto most (x ∷ xs) high h = let below = h.1 in (h.0, omega arith, ascends_further (x + 1) upto most xs high h.2)

-- each number is at least the first bound
pub at_least : (from upto : ℕ) (xs : List ℕ) (i d : ℕ) → AscendsIn from upto xs → i < length xs → from ≤ get_or xs i d
at_least from upto [] i d h inside = omega arith
at_least from upto (x ∷ xs) zero d h inside = h.0
at_least from upto (x ∷ xs) (suc i) d h inside = let first = h.0 in let rest = at_least (x + 1) upto xs i d h.2 (omega arith) in omega arith

-- each number is below the second bound
pub below_bound : (from upto : ℕ) (xs : List ℕ) (i d : ℕ) → AscendsIn from upto xs → i < length xs → get_or xs i d < upto
below_bound from upto [] i d h inside = omega arith
below_bound from upto (x ∷ xs) zero d h inside = h.1
below_bound from upto (x ∷ xs) (suc i) d h inside = below_bound (x + 1) upto xs i d h.2 (omega arith)

-- a later number is greater
pub later : (from upto : ℕ) (xs : List ℕ) (i j d : ℕ) → AscendsIn from upto xs → i < j → j < length xs → get_or xs i d < get_or xs j d
later from upto [] i j d h before inside = omega arith
later from upto (x ∷ xs) zero zero d h before inside = omega arith
later from upto (x ∷ xs) zero (suc j) d h before inside = let rest = at_least (x + 1) upto xs j d h.2 (omega arith) in omega arith
later from upto (x ∷ xs) (suc i) zero d h before inside = omega arith
later from upto (x ∷ xs) (suc i) (suc j) d h before inside = later (x + 1) upto xs i j d h.2 (omega arith) (omega arith)

-- an ascending list does not decrease
pub not_decreasing : (from upto : ℕ) (xs : List ℕ) → AscendsIn from upto xs → IsNonDecreasingBy (λ x. x) xs
not_decreasing from upto xs h i j d before inside = elim (cases_lt i j) [
  | inl less ↦ (let more = later from upto xs i j d h less inside in omega arith)
  | inr not_less ↦ (let same : i ≡ j = omega arith in let e = ap (λ k. get_or xs k d) same in omega arith)
]

-- one more is counted where the first number is below k
pub counts_first : (x : ℕ) (xs : List ℕ) (k : ℕ) → x < k → count_below (x ∷ xs) k ≡ suc (count_below xs k)
counts_first x xs k low = ap (λ b. cond b 1 0 + count_below xs k) (lt-ltb x k low) ∙ omega arith

-- and none where it is not
pub skips_first : (x : ℕ) (xs : List ℕ) (k : ℕ) → k ≤ x → count_below (x ∷ xs) k ≡ count_below xs k
skips_first x xs k high = ap (λ b. cond b 1 0 + count_below xs k) (le-ltb x k high) ∙ omega arith

-- as many numbers are below k as come before the first that is not
pub counted_at : (xs : List ℕ) (i k : ℕ) → i ≤ length xs → ((j : ℕ) → j < i → get_or xs j 0 < k) → ((j : ℕ) → i ≤ j → j < length xs → k ≤ get_or xs j 0) → i ≡ count_below xs k
counted_at [] i k within before after = omega arith
counted_at (x ∷ xs) zero k within before after =
    let here = skips_first x xs k (after 0 (omega arith) (omega arith)) in
    let rest = counted_at xs 0 k (omega arith) (λ j l. omega arith) (λ j l m. after (suc j) (omega arith) (omega arith)) in
    omega arith
counted_at (x ∷ xs) (suc i) k within before after =
    let here = counts_first x xs k (before 0 (omega arith)) in
    let rest = counted_at xs i k (omega arith) (λ j l. before (suc j) (omega arith)) (λ j l m. after (suc j) (omega arith) (omega arith)) in
    omega arith

-- a list whose numbers are all above k does not have k
pub above_all : (from upto : ℕ) (xs : List ℕ) (k : ℕ) → AscendsIn from upto xs → k < from → has xs k ≡ false
above_all from upto [] k h low = refl
above_all from upto (x ∷ xs) k h low =
    let first = h.0 in
    ap (λ b. b || has xs k) (ne_eqb x k (λ e. omega arith)) ∙ above_all (x + 1) upto xs k h.2 (omega arith)

-- nor does one whose numbers are all below it
pub below_all : (from upto : ℕ) (xs : List ℕ) (k : ℕ) → AscendsIn from upto xs → upto ≤ k → has xs k ≡ false
below_all from upto [] k h high = refl
below_all from upto (x ∷ xs) k h high =
    let below = h.1 in
    ap (λ b. b || has xs k) (ne_eqb x k (λ e. omega arith)) ∙ below_all (x + 1) upto xs k h.2 high

-- no number of a list that begins at k or later is below k
pub none_below : (from upto : ℕ) (xs : List ℕ) (k : ℕ) → AscendsIn from upto xs → k ≤ from → count_below xs k ≡ 0
none_below from upto [] k h low = refl
none_below from upto (x ∷ xs) k h low =
    let first = h.0 in
    skips_first x xs k (omega arith) ∙ none_below (x + 1) upto xs k h.2 (omega arith)

-- at most all numbers are counted
pub counts_at_most : (xs : List ℕ) (k : ℕ) → count_below xs k ≤ length xs
counts_at_most [] k = omega arith
counts_at_most (x ∷ xs) k = let rest = counts_at_most xs k in elim (cases_lt x k) [
  | inl low ↦ (let e = counts_first x xs k low in omega arith)
  | inr high ↦ (let e = skips_first x xs k high in omega arith)
]

-- a number is in a list exactly if it stands where it has its place
pub at_place : (from upto : ℕ) (xs : List ℕ) (k : ℕ) → AscendsIn from upto xs → has xs k ≡ (nat_lt (count_below xs k) (length xs) && nat_eq (get_or xs (count_below xs k) 0) k)
at_place from upto [] k h = refl
at_place from upto (x ∷ xs) k h = elim (cases_lt x k) [
  | inl low ↦ (
      let n = count_below xs k in
      ap (λ b. b || has xs k) (ne_eqb x k (λ e. omega arith)) ∙ at_place (x + 1) upto xs k h.2
      ∙ ap (λ b. b && nat_eq (get_or xs n 0) k) (sym (leb-suc-suc (suc n) (length xs)))
      ∙ sym (ap (λ m. nat_lt m (suc (length xs)) && nat_eq (get_or (x ∷ xs) m 0) k) (counts_first x xs k low)))
  | inr high ↦ (
      let out : has xs k ≡ false = above_all (x + 1) upto xs k h.2 (omega arith) in
      let one : count_below (x ∷ xs) k ≡ 0 = skips_first x xs k high ∙ none_below (x + 1) upto xs k h.2 (omega arith) in
      let some : nat_lt 0 (suc (length xs)) ≡ true = lt-ltb 0 (suc (length xs)) (omega arith) in
      ap (λ b. nat_eq x k || b) out ∙ or-false (nat_eq x k)
      ∙ sym (ap (λ m. nat_lt m (suc (length xs)) && nat_eq (get_or (x ∷ xs) m 0) k) one ∙ ap (λ b. b && nat_eq x k) some))
]

-- ascending lists with the same numbers are equal
pub same_numbers : (from upto : ℕ) (xs ys : List ℕ) → AscendsIn from upto xs → AscendsIn from upto ys → ((k : ℕ) → has xs k ≡ has ys k) → xs ≡ ys
same_numbers from upto [] [] h g same = refl
same_numbers from upto [] (y ∷ ys) h g same = let e : false ≡ true = same y ∙ ap (λ b. b || has ys y) (eq-eqb y y refl) in cc
same_numbers from upto (x ∷ xs) [] h g same = let e : true ≡ false = sym (ap (λ b. b || has xs x) (eq-eqb x x refl)) ∙ same x in cc
same_numbers from upto (x ∷ xs) (y ∷ ys) h g same =
    let here : has (x ∷ xs) x ≡ true = ap (λ b. b || has xs x) (eq-eqb x x refl) in
    let there : has (y ∷ ys) y ≡ true = ap (λ b. b || has ys y) (eq-eqb y y refl) in
    let not_less : x < y → x ≡ y = λ l. let e : true ≡ false = sym here ∙ same x ∙ above_all y upto (y ∷ ys) x (omega arith, g.1, g.2) l in cc in
    let not_more : y < x → x ≡ y = λ l. let e : true ≡ false = sym there ∙ sym (same y) ∙ above_all x upto (x ∷ xs) y (omega arith, h.1, h.2) l in cc in
    let first : x ≡ y = elim (cases_lt x y) [ inl l ↦ not_less l | inr l ↦ elim (cases_lt y x) [ inl m ↦ not_more m | inr m ↦ omega arith ] ] in
    let ahead : AscendsIn (x + 1) upto ys = ascends_earlier (y + 1) (x + 1) upto ys (omega arith) g.2 in
    let rest = same_numbers (x + 1) upto xs ys h.2 ahead (λ k. elim (cases_eq x k) [
      | inl e ↦ above_all (x + 1) upto xs k h.2 (omega arith) ∙ sym (above_all (x + 1) upto ys k ahead (omega arith))
      | inr n ↦ sym (ap (λ b. b || has xs k) (ne_eqb x k n)) ∙ same k ∙ ap (λ b. b || has ys k) (ne_eqb y k (λ e. n (first ∙ e)))
    ]) in
    cc (first, rest)

-- a list has at most as many numbers as its bounds have between them
pub few_numbers : (from upto : ℕ) (xs : List ℕ) → from ≤ upto → AscendsIn from upto xs → length xs + from ≤ upto
few_numbers from upto [] within h = omega arith
few_numbers from upto (x ∷ xs) within h = let first = h.0 in let below = h.1 in let rest = few_numbers (x + 1) upto xs (omega arith) h.2 in omega arith

-- numbers of two lists, one after the other, that are below k
pub below_append : (xs ys : List ℕ) (k : ℕ) → count_below (xs ++ ys) k ≡ count_below xs k + count_below ys k
below_append [] ys k = omega arith
below_append (x ∷ xs) ys k = let rest = below_append xs ys k in elim (cases_lt x k) [
  | inl low ↦ (let a = counts_first x (xs ++ ys) k low in let b = counts_first x xs k low in omega arith)
  | inr high ↦ (let a = skips_first x (xs ++ ys) k high in let b = skips_first x xs k high in omega arith)
]

-- the numbers of a list that are below k ascend up to it, and the others from it on
pub ascends_front : (from upto : ℕ) (xs : List ℕ) (k : ℕ) → AscendsIn from upto xs → AscendsIn from k (take (count_below xs k) xs)
ascends_front from upto [] k h = tt
ascends_front from upto (x ∷ xs) k h = elim (cases_lt x k) [
  | inl low ↦ subst (λ n. AscendsIn from k (take n (x ∷ xs))) (sym (counts_first x xs k low)) (h.0, low, ascends_front (x + 1) upto xs k h.2)
  | inr high ↦ subst (λ n. AscendsIn from k (take n (x ∷ xs))) (sym (skips_first x xs k high ∙ none_below (x + 1) upto xs k h.2 (omega arith))) tt
]

pub ascends_back : (from upto : ℕ) (xs : List ℕ) (k : ℕ) → AscendsIn from upto xs → AscendsIn k upto (drop (count_below xs k) xs)
ascends_back from upto [] k h = tt
ascends_back from upto (x ∷ xs) k h = elim (cases_lt x k) [
  | inl low ↦ subst (λ n. AscendsIn k upto (drop n (x ∷ xs))) (sym (counts_first x xs k low)) (ascends_back (x + 1) upto xs k h.2)
  | inr high ↦ subst (λ n. AscendsIn k upto (drop n (x ∷ xs))) (sym (skips_first x xs k high ∙ none_below (x + 1) upto xs k h.2 (omega arith))) (high, h.1, h.2)
]

-- two lists, one after the other
pub ascends_append : (from mid upto : ℕ) (xs ys : List ℕ) → from ≤ mid → mid ≤ upto → AscendsIn from mid xs → AscendsIn mid upto ys → AscendsIn from upto (xs ++ ys)
ascends_append from mid upto [] ys low high h g = ascends_earlier mid from upto ys low g
ascends_append from mid upto (x ∷ xs) ys low high h g = let below = h.1 in (h.0, omega arith, ascends_append (x + 1) mid upto xs ys (omega arith) high h.2 g)
