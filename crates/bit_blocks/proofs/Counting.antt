-- Numbers of one list that are counted by another.
use Rattle.std.proofs.Common.{◌≡◌, ℕ, zero, suc, ◌+◌, ◌-◌, ◌<◌, ◌≤◌, Bool, true, false, cond, ◌&&◌, ◌||◌, nat_eq, List, [], ◌∷◌, ◌++◌, get_or, length, take, drop, refl, sym, ◌∙◌, ap, inl, inr, arith}
use Rattle.std.proofs.Math.Bool.{or-true}
use Rattle.std.specs.Prelude.{◌⊎◌}
use Rattle.std.proofs.Common.{length-drop}
use Rattle.std.proofs.lemmas.List.{get_or_past}
use Rattle.std.proofs.lemmas.List.FromFn.{length-range_with_len}
use Rattle.std.proofs.lemmas.Bool.{cases_lt, cases_eq, cases_Bool, eq-eqb, ne_eqb}
use Rattle.bit_blocks.specs.Numbers.{AscendsIn, Ascends, count_below, count_where, has, those}
use Rattle.bit_blocks.specs.Runs.{numbers_of_run}
use Rattle.bit_blocks.specs.declared.ranged.Run.{Run}
use Rattle.std.specs.List.{range_with_len}
use Rattle.bit_blocks.proofs.Ascending.{below_bound, counts_first, none_below, not_decreasing, skips_first}
use Rattle.bit_blocks.proofs.Grouped.{rest_begins}
use Rattle.bit_blocks.proofs.Those.{those_here, those_none, those_not_here, those_of, those_same}
use Rattle.bit_blocks.proofs.Merging.{AllBefore, at_index, between, next_at, next_inside, next_up, still_below}

-- a number that passes is counted, another is not
pub counts_here : (p : ℕ → Bool) (x : ℕ) (xs : List ℕ) → p x ≡ true → count_where p (x ∷ xs) ≡ suc (count_where p xs)
counts_here p x xs here = ap (λ b. cond b 1 0 + count_where p xs) here ∙ omega arith

pub counts_not : (p : ℕ → Bool) (x : ℕ) (xs : List ℕ) → p x ≡ false → count_where p (x ∷ xs) ≡ count_where p xs
counts_not p x xs out = ap (λ b. cond b 1 0 + count_where p xs) out ∙ omega arith

-- two lists, one after the other
pub count_append : (p : ℕ → Bool) (xs ys : List ℕ) → count_where p (xs ++ ys) ≡ count_where p xs + count_where p ys
count_append p [] ys = omega arith
count_append p (x ∷ xs) ys = let rest = count_append p xs ys in elim (cases_Bool (p x)) [
  | inl here ↦ (let a = counts_here p x (xs ++ ys) here in let b = counts_here p x xs here in omega arith)
  | inr out ↦ (let a = counts_not p x (xs ++ ys) out in let b = counts_not p x xs out in omega arith)
]

-- at most all are counted
pub count_most : (p : ℕ → Bool) (xs : List ℕ) → count_where p xs ≤ length xs
count_most p [] = omega arith
count_most p (x ∷ xs) = let rest = count_most p xs in elim (cases_Bool (p x)) [
  | inl here ↦ (let a = counts_here p x xs here in omega arith)
  | inr out ↦ (let a = counts_not p x xs out in omega arith)
]

count_next : (p : ℕ → Bool) (xs : List ℕ) (i : ℕ) → i < length xs → count_where p (take (suc i) xs) ≡ count_where p (take i xs) + cond (p (get_or xs i 0)) 1 0
count_next p [] i inside = absurd (omega arith)
count_next p (x ∷ xs) zero inside = omega arith
count_next p (x ∷ xs) (suc i) inside = let rest = count_next p xs i (omega arith) in omega arith

-- one more number of a list that is read
pub count_more : (p : ℕ → Bool) (xs : List ℕ) (i : ℕ) → i < length xs → count_where p (take (i + 1) xs) ≡ count_where p (take i xs) + cond (p (get_or xs i 0)) 1 0
count_more p xs i inside = let e : i + 1 ≡ suc i = omega arith in ap (λ n. count_where p (take n xs)) e ∙ count_next p xs i inside

-- none of the numbers passes
pub count_none : (p : ℕ → Bool) (xs : List ℕ) → ((i : ℕ) → i < length xs → p (get_or xs i 0) ≡ false) → count_where p xs ≡ 0
count_none p [] none = refl
count_none p (x ∷ xs) none = counts_not p x xs (none 0 (omega arith)) ∙ count_none p xs (λ i l. none (suc i) (omega arith))

-- tests that agree on each number count the same
pub count_same : (p q : ℕ → Bool) (xs : List ℕ) → ((k : ℕ) → has xs k ≡ true → p k ≡ q k) → count_where p xs ≡ count_where q xs
count_same p q [] same = refl
count_same p q (x ∷ xs) same =
    ap (λ b. cond b 1 0 + count_where p xs) (same x (ap (λ b. b || has xs x) (eq-eqb x x refl)))
    ∙ ap (λ n. cond (q x) 1 0 + n) (count_same p q xs (λ k l. same k (ap (λ b. nat_eq x k || b) l ∙ or-true (nat_eq x k))))

-- two lists are read to i and j, and as many numbers of both were found as the left one has before i
pub record CountsTo (xs ys : List ℕ) (i j count : ℕ) : Type 0 where
  pub left : i ≤ length xs
  pub right : j ≤ length ys
  pub below : AllBefore ys j (next_at xs i)
  pub found : count ≡ count_where (has ys) (take i xs)
  pub few : count ≤ i

pub counts_begun : (xs ys : List ℕ) → CountsTo xs ys 0 0 0
counts_begun xs ys = record { left = omega arith; right = omega arith; below = λ m low. omega arith; found = none xs; few = omega arith }
  where
    none : (l : List ℕ) → 0 ≡ count_where (has ys) (take 0 l)
    none [] = refl
    none (x ∷ l) = refl

pub counts_left : (xs ys : List ℕ) (i j count : ℕ) → Ascends xs → Ascends ys → CountsTo xs ys i j count → i < length xs → j < length ys → get_or xs i 0 < get_or ys j 0 → CountsTo xs ys (i + 1) j count
counts_left xs ys i j count h g r inside within less =
    let e = next_inside xs i inside in
    let f = next_inside ys j within in
    let up = next_up xs i h inside in
    let rb = r.right in
    let low = r.few in
    let found = r.found in
    let out : has ys (get_or xs i 0) ≡ false = between ys j (get_or xs i 0) g rb (still_below ys j (next_at xs i) (get_or xs i 0) (omega arith) r.below) (omega arith) in
    let more = count_more (has ys) xs i inside ∙ ap (λ b. count_where (has ys) (take i xs) + cond b 1 0) out in
    record {
      left = omega arith;
      right = rb;
      below = still_below ys j (next_at xs i) (next_at xs (i + 1)) (omega arith) r.below;
      found = omega arith;
      few = omega arith;
    }

pub counts_right : (xs ys : List ℕ) (i j count : ℕ) → Ascends xs → Ascends ys → CountsTo xs ys i j count → i < length xs → j < length ys → get_or ys j 0 < get_or xs i 0 → CountsTo xs ys i (j + 1) count
counts_right xs ys i j count h g r inside within less =
    let e = next_inside xs i inside in
    record {
      left = r.left;
      right = omega arith;
      below = λ m low. elim (cases_lt m j) [
        | inl l ↦ r.below m l
        | inr l ↦ (let s : m ≡ j = omega arith in let t = ap (λ n. get_or ys n 0) s in omega arith)
      ];
      found = r.found;
      few = r.few;
    }

pub counts_both : (xs ys : List ℕ) (i j count : ℕ) → Ascends xs → Ascends ys → CountsTo xs ys i j count → i < length xs → j < length ys → get_or ys j 0 ≡ get_or xs i 0 → CountsTo xs ys (i + 1) (j + 1) (count + 1)
counts_both xs ys i j count h g r inside within same =
    let e = next_inside xs i inside in
    let up = next_up xs i h inside in
    let low = r.few in
    let found = r.found in
    let there : has ys (get_or xs i 0) ≡ true = ap (has ys) (sym same) ∙ at_index ys j within in
    let more = count_more (has ys) xs i inside ∙ ap (λ b. count_where (has ys) (take i xs) + cond b 1 0) there in
    record {
      left = omega arith;
      right = omega arith;
      below = λ m l. elim (cases_lt m j) [
        | inl b ↦ (let old = r.below m b in omega arith)
        | inr b ↦ (let s : m ≡ j = omega arith in let t = ap (λ n. get_or ys n 0) s in omega arith)
      ];
      found = omega arith;
      few = omega arith;
    }

-- the front of a list, and the rest of it, are counted apart
count_parts : (p : ℕ → Bool) (xs : List ℕ) (i : ℕ) → count_where p xs ≡ count_where p (take i xs) + count_where p (drop i xs)
count_parts p [] zero = omega arith
count_parts p [] (suc i) = omega arith
count_parts p (x ∷ xs) zero = omega arith
count_parts p (x ∷ xs) (suc i) = let rest = count_parts p xs i in omega arith

empty : (n : ℕ) → get_or {A = ℕ} [] n 0 ≡ 0
empty zero = refl
empty (suc n) = refl

dropped_item : (xs : List ℕ) (i k n : ℕ) → n ≡ i + k → get_or (drop i xs) k 0 ≡ get_or xs n 0
dropped_item [] zero k n at = empty k ∙ sym (empty n)
dropped_item [] (suc i) k n at = empty k ∙ sym (empty n)
dropped_item (x ∷ xs) zero k n at = let e : k ≡ n = omega arith in ap (λ m. get_or (x ∷ xs) m 0) e
dropped_item (x ∷ xs) (suc i) k zero at = absurd (omega arith)
dropped_item (x ∷ xs) (suc i) k (suc n) at = dropped_item xs i k n (omega arith)

-- one list was read to its end
pub counts_done : (xs ys : List ℕ) (i j count : ℕ) → Ascends xs → Ascends ys → CountsTo xs ys i j count → (length xs ≡ i) ⊎ (length ys ≡ j) → count ≡ count_where (has ys) xs
counts_done xs ys i j count h g r end =
    let found = r.found in
    let parts = count_parts (has ys) xs i in
    let size = length-drop i xs in
    let none : count_where (has ys) (drop i xs) ≡ 0 = count_none (has ys) (drop i xs) (λ k l. elim end [
      | inl e ↦ absurd (omega arith)
      | inr e ↦ (
          let at = dropped_item xs i k (i + k) refl in
          let past = get_or_past ys j 65536 (omega arith) in
          let nx = next_inside xs i (omega arith) in
          let most = below_bound 0 65536 xs (i + k) 0 h (omega arith) in
          let up : get_or xs i 0 ≤ get_or xs (i + k) 0 = not_decreasing 0 65536 xs h i (i + k) 0 (omega arith) (omega arith) in
          ap (has ys) at ∙ between ys j (get_or xs (i + k) 0) g r.right (still_below ys j (next_at xs i) (get_or xs (i + k) 0) (omega arith) r.below) (omega arith))
    ]) in
    omega arith

-- ---- numbers of a range that are in a list

-- one more number below the next bound, if it is in the list
pub below_next : (from upto : ℕ) (xs : List ℕ) (a : ℕ) → AscendsIn from upto xs → count_below xs (suc a) ≡ count_below xs a + cond (has xs a) 1 0
below_next from upto [] a h = omega arith
below_next from upto (x ∷ xs) a h = let rest = below_next (x + 1) upto xs a h.2 in elim (cases_eq x a) [
  | inl same ↦ (
      let one = counts_first x xs (suc a) (omega arith) in
      let none = skips_first x xs a (omega arith) in
      let zero_rest = none_below (x + 1) upto xs a h.2 (omega arith) in
      let zero_next = none_below (x + 1) upto xs (suc a) h.2 (omega arith) in
      let here : cond {A = ℕ} (has (x ∷ xs) a) 1 0 ≡ 1 = ap (λ b. cond {A = ℕ} (b || has xs a) 1 0) (eq-eqb x a same) in
      omega arith)
  | inr other ↦ (
      let here : cond {A = ℕ} (has (x ∷ xs) a) 1 0 ≡ cond {A = ℕ} (has xs a) 1 0 = ap (λ b. cond {A = ℕ} (b || has xs a) 1 0) (ne_eqb x a other) in
      elim (cases_lt x a) [
        | inl low ↦ (let one = counts_first x xs (suc a) (omega arith) in let too = counts_first x xs a low in omega arith)
        | inr high ↦ (let none = skips_first x xs a (omega arith) in let not = skips_first x xs (suc a) (omega arith) in omega arith)
      ])
]

-- the numbers of a range that are in a list lie between two places
pub count_range : (xs : List ℕ) (a n b : ℕ) → Ascends xs → a + n ≡ b → count_where (has xs) (range_with_len a n) + count_below xs a ≡ count_below xs b
count_range xs a zero b h end = let e : a ≡ b = omega arith in let f = ap (count_below xs) e in omega arith
count_range xs a (suc n) b h end =
    let rest = count_range xs (a + 1) n b h (omega arith) in
    let e : a + 1 ≡ suc a = omega arith in
    let f = ap (count_below xs) e in
    let next = below_next 0 65536 xs a h in
    let here : count_where (has xs) (range_with_len a (suc n)) ≡ cond (has xs a) 1 0 + count_where (has xs) (range_with_len (a + 1) n) = refl in
    omega arith

-- numbers of a range that pass a test are counted by another
pub count_those : (p q : ℕ → Bool) (a n : ℕ) → count_where q (those p a n) ≡ length (those (λ k. p k && q k) a n)
count_those p q a zero = ap (count_where q) (those_none p a) ∙ sym (ap length (those_none (λ k. p k && q k) a))
count_those p q a (suc n) = let rest = count_those p q (a + 1) n in elim (cases_Bool (p a)) [
  | inl here ↦ elim (cases_Bool (q a)) [
    | inl too ↦ (
        let one = counts_here q a (those p (a + 1) n) too in
        ap (count_where q) (those_here p a n here) ∙ one ∙ ap suc rest ∙ sym (ap length (those_here (λ k. p k && q k) a n (ap (λ b. b && q a) here ∙ too))))
    | inr out ↦ (
        let one = counts_not q a (those p (a + 1) n) out in
        ap (count_where q) (those_here p a n here) ∙ one ∙ rest ∙ sym (ap length (those_not_here (λ k. p k && q k) a n (ap (λ b. b && q a) here ∙ out))))
  ]
  | inr out ↦ ap (count_where q) (those_not_here p a n out) ∙ rest ∙ sym (ap length (those_not_here (λ k. p k && q k) a n (ap (λ b. b && q a) out)))
]

-- as many of one list are in the other as of the other in the one
pub count_swapped : (upto : ℕ) (xs ys : List ℕ) → AscendsIn 0 upto xs → AscendsIn 0 upto ys → count_where (has ys) xs ≡ count_where (has xs) ys
count_swapped upto xs ys h g =
    ap (count_where (has ys)) (those_of 0 upto xs upto (omega arith) h) ∙ count_those (has xs) (has ys) 0 upto
    ∙ ap length (those_same (λ k. has xs k && has ys k) (λ k. has ys k && has xs k) 0 upto (λ k low high. and_swap (has xs k) (has ys k)))
    ∙ sym (ap (count_where (has xs)) (those_of 0 upto ys upto (omega arith) g) ∙ count_those (has ys) (has xs) 0 upto)
  where
    and_swap : (a b : Bool) → (a && b) ≡ (b && a)
    and_swap true true = refl
    and_swap true false = refl
    and_swap false true = refl
    and_swap false false = refl

-- what is left to count from index i on
pub count_from : (p : ℕ → Bool) (xs : List ℕ) (i : ℕ) → i < length xs → count_where p (drop i xs) ≡ cond (p (get_or xs i 0)) 1 0 + count_where p (drop (i + 1) xs)
count_from p xs i inside = ap (count_where p) (rest_begins xs i inside)

pub counted_swapped : (n : ℕ) (xs ys : List ℕ) → Ascends xs → Ascends ys → n ≡ count_where (has xs) ys → n ≡ count_where (has ys) xs
counted_swapped n xs ys h g count = count ∙ sym (count_swapped 65536 xs ys h g)

-- the numbers of a run that are in a list stand between two places
pub count_run : (xs : List ℕ) (r : Run) → Ascends xs → r.first ≤ r.last → count_where (has xs) (numbers_of_run r) + count_below xs r.first ≡ count_below xs (r.last + 1)
count_run xs r h ordered = count_range xs r.first (r.last + 1 - r.first) (r.last + 1) h (omega arith)

-- and are no more than the run has
pub few_of_run : (n : ℕ) (xs : List ℕ) (r : Run) → n ≡ count_where (has xs) (numbers_of_run r) → n ≤ r.last + 1 - r.first
few_of_run n xs r is = let most = count_most (has xs) (numbers_of_run r) in let size = length-range_with_len r.first (r.last + 1 - r.first) in omega arith
