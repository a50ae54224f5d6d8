-- How many of ascending numbers are below one, and which is the last that is at most one.
use Rattle.std.proofs.Common.{◌≡◌, ℕ, zero, suc, ◌+◌, ◌<◌, ◌≤◌, true, false, cond, List, [], ◌∷◌, count_by, drop, length, length-take, nat_lt, slice_get, Some, take, ◌∙◌, ap, arith}
use Rattle.std.specs.List.{All}
use Rattle.std.specs.List.Sorted.{IsNonDecreasing}
use Rattle.std.proofs.lemmas.List.{get_or-drop, get_or-take, length-drop}
use Rattle.std.proofs.lemmas.List.Elements.{All-head, All-tail}
use Rattle.std.proofs.lemmas.List.Sums.{sum_by-cons}
use Rattle.std.proofs.lemmas.Option.{get_or_from_slice_get, slice_get_within}

below_test : (y x : ℕ) → y < x → nat_lt y x ≡ true
below_test y x h = grind arith

above_test : (y x : ℕ) → x ≤ y → nat_lt y x ≡ false
above_test y x h = grind arith

-- as many are below as stand before the first that is not
pub rank_is : (xs : List ℕ) (x k : ℕ) → k ≤ length xs → All (λ number. number < x) (take k xs) → All (λ number. x ≤ number) (drop k xs) → k ≡ count_by (λ number. nat_lt number x) xs
rank_is [] x k inside below from = omega arith
rank_is (y ∷ ys) x zero inside below from =
    let here = above_test y x (All-head (λ number. x ≤ number) y ys from) in
    let rest = rank_is ys x zero (omega arith) (λ k d h. absurd (omega arith)) (All-tail (λ number. x ≤ number) y ys from) in
    let split = sum_by-cons (λ number. cond (nat_lt number x) 1 0) y ys ∙ ap (λ b. cond b 1 0 + count_by (λ number. nat_lt number x) ys) here in
    omega arith
rank_is (y ∷ ys) x (suc k) inside below from =
    let here = below_test y x (All-head (λ number. number < x) y (take k ys) below) in
    let rest = rank_is ys x k (omega arith) (All-tail (λ number. number < x) y (take k ys) below) from in
    let split = sum_by-cons (λ number. cond (nat_lt number x) 1 0) y ys ∙ ap (λ b. cond b 1 0 + count_by (λ number. nat_lt number x) ys) here in
    omega arith

-- numbers that ascend are as large from one on that is large enough
pub from_found : (xs : List ℕ) (x k y : ℕ) → IsNonDecreasing xs → slice_get xs k ≡ Some y → x ≤ y → All (λ number. x ≤ number) (drop k xs)
from_found xs x k y ascends found enough j d h =
    let size = length-drop k xs in
    let later = ascends k (k + j) d (omega arith) (omega arith) in
    let here = get_or_from_slice_get xs k y d found in
    let item = get_or-drop k xs j d in
    omega arith

-- an index with an item is at most the length
pub found_within : (xs : List ℕ) (k y : ℕ) → slice_get xs k ≡ Some y → k ≤ length xs
found_within xs k y found = let low = slice_get_within xs k y found in omega arith

-- the last of the numbers that are at most one
pub last_most : (xs : List ℕ) (x n k y : ℕ) → n ≡ k + 1 → All (λ number. number ≤ x) (take n xs) → slice_get xs k ≡ Some y → y ≤ x
last_most xs x n k y next upto found =
    let low = slice_get_within xs k y found in
    let here = get_or_from_slice_get xs k y 0 found in
    let item = get_or-take n xs k 0 (omega arith) in
    let size = length-take n xs in
    let most = upto k 0 (omega arith) in
    omega arith

-- a number at most x refutes that all are above x
pub not_all_above : (xs : List ℕ) (x k y : ℕ) → slice_get xs k ≡ Some y → y ≤ x → All (λ number. x < number) xs → ⊥
not_all_above xs x k y found most above =
    let low = slice_get_within xs k y found in
    let here = get_or_from_slice_get xs k y 0 found in
    let larger = above k 0 low in
    omega arith
