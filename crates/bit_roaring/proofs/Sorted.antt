-- Numbers that were sorted, and of which one of each was kept.
use Rattle.std.proofs.Common.{◌≡◌, ℕ, suc, ◌+◌, ◌^◌, ◌<◌, Bool, true, false, cond, ◌||◌, nat_cmp, nat_eq, nat_lt, List, [], ◌∷◌, ◌++◌, refl, sym, ◌∙◌, ap, subst, inl, inr, arith}
use Rattle.std.specs.Prelude.{All, slice_index}
use Rattle.std.specs.List.{dedup, dedup_from, sum_by}
use Rattle.std.specs.List.Retain.{DiffersFromLast, IsFiltered}
use Rattle.std.specs.List.Sorted.{IsNonDecreasing, IsPermutation, IsSorted}
use Rattle.std.proofs.Math.Bool.{or-false}
use Rattle.std.proofs.lemmas.Bool.{cases_Bool, cases_eq, eq-eqb, lt-ltb, ne_eqb}
use Rattle.std.proofs.lemmas.List.{get_or_default}
use Rattle.std.proofs.lemmas.List.Filters.{dedup_is}
use Rattle.std.proofs.lemmas.List.Sums.{sum_by-cons}
use Rattle.std.proofs.lemmas.List.Sorted.{IsNonDecreasingBy-from_sort, sum_by-IsPermutation}
use Rattle.bit_blocks.specs.Numbers.{AscendsIn, has}
use Rattle.bit_blocks.proofs.Ascending.{ascends_earlier}
use Rattle.bit_blocks.proofs.Edits.{has_append}
use Rattle.bit_roaring.specs.Changes.{HasTaken}

-- ---- numbers in another order

-- how often a number stands in a list
abbrev often : ℕ → List ℕ → ℕ
often k xs = sum_by (λ x. cond (nat_eq x k) 1 0) xs

has_often : (xs : List ℕ) (k : ℕ) → has xs k ≡ nat_lt 0 (often k xs)
has_often [] k = refl
has_often (x ∷ xs) k =
    let more = sum_by-cons (λ y. cond {A = ℕ} (nat_eq y k) 1 0) x xs in
    elim (cases_Bool (nat_eq x k)) [
      | inl here ↦ (
          let one = ap (λ b. cond {A = ℕ} b 1 0) here in
          ap (λ b. b || has xs k) here ∙ sym (lt-ltb 0 (often k (x ∷ xs)) (omega (arith, more, one))))
      | inr other ↦ (
          let none = ap (λ b. cond {A = ℕ} b 1 0) other in
          let same : often k xs ≡ often k (x ∷ xs) = omega (arith, more, none) in
          ap (λ b. b || has xs k) other ∙ has_often xs k ∙ ap (λ n. nat_lt 0 n) same)
    ]

pub has_permuted : (xs ys : List ℕ) (k : ℕ) → IsPermutation xs ys → has ys k ≡ has xs k
has_permuted xs ys k h = has_often ys k ∙ ap (λ n. nat_lt 0 n) (sum_by-IsPermutation (λ x. cond (nat_eq x k) 1 0) xs ys h) ∙ sym (has_often xs k)

-- ---- one of each

has_kept : (y : ℕ) (xs : List ℕ) (k : ℕ) → has (dedup_from nat_eq y xs) k ≡ has (y ∷ xs) k
has_kept y [] k = refl
has_kept y (x ∷ xs) k = elim (cases_eq x y) [
  | inl same ↦ ap (λ b. has (cond b (dedup_from nat_eq y xs) (y ∷ dedup_from nat_eq x xs)) k) (eq-eqb x y same) ∙ has_kept y xs k
      ∙ sym (ap (λ n. nat_eq y k || (nat_eq n k || has xs k)) same ∙ twice (nat_eq y k) (has xs k))
  | inr other ↦ ap (λ b. has (cond b (dedup_from nat_eq y xs) (y ∷ dedup_from nat_eq x xs)) k) (ne_eqb x y other) ∙ ap (λ b. nat_eq y k || b) (has_kept x xs k)
]
  where
    twice : (a b : Bool) → (a || (a || b)) ≡ (a || b)
    twice true b = refl
    twice false b = refl

pub has_deduped : (xs : List ℕ) (k : ℕ) → has (dedup nat_eq xs) k ≡ has xs k
has_deduped [] k = refl
has_deduped (x ∷ xs) k = has_kept x xs k

kept_ascends : (y upto : ℕ) (xs : List ℕ) → IsNonDecreasing (y ∷ xs) → All (λ x. x < upto) (y ∷ xs) → AscendsIn y upto (dedup_from nat_eq y xs)
kept_ascends y upto [] up below = let here = below 0 y (omega arith) in (omega arith, here, tt)
kept_ascends y upto (x ∷ xs) up below = elim (cases_eq x y) [
  | inl same ↦ subst (λ b. AscendsIn y upto (cond b (dedup_from nat_eq y xs) (y ∷ dedup_from nat_eq x xs))) (sym (eq-eqb x y same))
      (kept_ascends y upto xs (subst (λ n. IsNonDecreasing (n ∷ xs)) same tail_up) (subst (λ n. All (λ m. m < upto) (n ∷ xs)) same tail_below))
  | inr other ↦ subst (λ b. AscendsIn y upto (cond b (dedup_from nat_eq y xs) (y ∷ dedup_from nat_eq x xs))) (sym (ne_eqb x y other))
      (let here = below 0 y (omega arith) in let step = up 0 1 y (omega arith) (omega arith) in (omega arith, here, ascends_earlier x (y + 1) upto (dedup_from nat_eq x xs) (omega arith) (kept_ascends x upto xs tail_up tail_below)))
]
  where
    tail_up : IsNonDecreasing (x ∷ xs)
    tail_up i j d before inside = up (suc i) (suc j) d (omega arith) (omega arith)

    tail_below : All (λ m. m < upto) (x ∷ xs)
    tail_below k d inside = below (suc k) d (omega arith)

-- what is left of sorted numbers ascends
pub deduped_ascends : (upto : ℕ) (xs : List ℕ) → IsNonDecreasing xs → All (λ x. x < upto) xs → AscendsIn 0 upto (dedup nat_eq xs)
deduped_ascends upto [] up below = tt
deduped_ascends upto (x ∷ xs) up below = ascends_earlier x 0 upto (dedup_from nat_eq x xs) (omega arith) (kept_ascends x upto xs up below)

-- ---- numbers in a vector that was sorted, and of which one of each was kept

pub sorted_ascend : (sorted kept : List ℕ) → IsSorted nat_cmp sorted → IsFiltered (DiffersFromLast nat_eq) [] sorted kept → ((k : ℕ) → slice_index sorted k < 2 ^ 32) → AscendsIn 0 (2 ^ 32) kept
sorted_ascend sorted kept up filtered below =
    subst (AscendsIn 0 (2 ^ 32)) (sym (dedup_is nat_eq sorted kept filtered))
    (deduped_ascends (2 ^ 32) sorted (IsNonDecreasingBy-from_sort (λ x. x) sorted up) (λ i d inside. let here = below i in let same = get_or_default sorted i d 0 inside in omega arith))

pub sorted_same : (old sorted kept : List ℕ) → IsPermutation old sorted → IsFiltered (DiffersFromLast nat_eq) [] sorted kept → (k : ℕ) → has kept k ≡ has old k
sorted_same old sorted kept moved filtered k = ap (λ l. has l k) (dedup_is nat_eq sorted kept filtered) ∙ has_deduped sorted k ∙ has_permuted old sorted k moved

-- ---- numbers of an iterator, of which some are in a set and the others wait in a vector

-- a number that is put to those that wait
pub wait_more : (set some numbers : List ℕ) (n : ℕ) → HasTaken set some numbers → HasTaken set (some ++ n ∷ []) (numbers ++ n ∷ [])
wait_more set some numbers n taken k =
    has_append numbers (n ∷ []) k ∙ ap (λ b. b || has (n ∷ []) k) (taken k) ∙ last (has set k) (has some k) (has (n ∷ []) k) ∙ ap (λ b. has set k || b) (sym (has_append some (n ∷ []) k))
  where
    last : (a b c : Bool) → ((a || b) || c) ≡ (a || (b || c))
    last true b c = refl
    last false b c = refl

-- those that wait are put into the set
pub wait_none : (old some new left numbers : List ℕ) → HasTaken old some numbers → HasTaken old some new → left ≡ [] → HasTaken new left numbers
wait_none old some new left numbers taken put none k =
    taken k ∙ sym (put k) ∙ sym (or-false (has new k)) ∙ ap (λ l. has new k || has l k) (sym none)

-- the set has all of them
pub wait_done : (old some new numbers : List ℕ) → HasTaken old some numbers → HasTaken old some new → (k : ℕ) → has new k ≡ has numbers k
wait_done old some new numbers taken put k = put k ∙ sym (taken k)
