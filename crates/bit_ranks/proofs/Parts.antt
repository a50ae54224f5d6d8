-- The indices of the ones of a part of a list, and what steps of an iterator leave of them.
use Rattle.std.proofs.Common.{◌≡◌, ℕ, suc, ◌+◌, ◌-◌, ◌<◌, ◌≤◌, Bool, true, false, cond, List, [], ◌∷◌, ◌++◌, count_by, drop, get_or, length, length-append, length-drop, map, slice_range, None, Option, Some, refl, sym, ◌∙◌, ap, subst, arith}
use Rattle.std.specs.Iterator.{YieldsFirst, YieldsLast}
use Rattle.std.specs.List.{All, filter, range_with_len}
use Rattle.std.proofs.lemmas.List.{get_or_append_left}
use Rattle.bit_addressing.specs.declared.length.TheConstants.{MAX_BITS}
use Rattle.bit_addressing.proofs.lists.Shown.{length-between}
use Rattle.bit_slice.specs.Places.{ones_of, places_between}
use Rattle.bit_slice.proofs.Found.{item_of_part}
use Rattle.bit_slice.proofs.Numbered.{as_many, before_end}
use Rattle.bit_slice.proofs.Places.{places_count}
use Rattle.bit_ranks.specs.Fits.{FitFrom}

-- the indices of the ones of a list whose first item stands at index i
abbrev pub from_index : ℕ → List Bool → List ℕ
from_index i [] = []
from_index i (x ∷ xs) = cond x (i ∷ from_index (i + 1) xs) (from_index (i + 1) xs)

-- from index i on, a list has the items of another
places_are : (all xs : List Bool) (i : ℕ) → ((k : ℕ) → k < length xs → get_or all (i + k) false ≡ get_or xs k false) → filter (λ j. get_or all j false) (range_with_len i (length xs)) ≡ from_index i xs
places_are all [] i same = refl
places_are all (x ∷ xs) i same =
    let z : i + 0 ≡ i = omega arith in
    let here : get_or all i false ≡ x = ap (λ j. get_or all j false) (sym z) ∙ same 0 (omega arith) in
    ap (λ b. cond b (i ∷ filter (λ j. get_or all j false) (range_with_len (i + 1) (length xs))) (filter (λ j. get_or all j false) (range_with_len (i + 1) (length xs)))) here
    ∙ ap (λ l. cond x (i ∷ l) l) (places_are all xs (i + 1) (λ k h. let e : i + 1 + k ≡ i + suc k = omega arith in ap (λ j. get_or all j false) e ∙ same (suc k) (omega arith)))

-- the indices of the ones are those counted from index 0
pub ones_are : (xs : List Bool) → ones_of xs ≡ from_index 0 xs
ones_are xs = places_are xs xs 0 (λ k h. let z : 0 + k ≡ k = omega arith in ap (λ j. get_or xs j false) z)

shifted : (a i : ℕ) (xs : List Bool) → map (λ k. a + k) (from_index i xs) ≡ from_index (a + i) xs
shifted a i [] = refl
shifted a i (true ∷ xs) = let z : a + (i + 1) ≡ a + i + 1 = omega arith in ap (λ l. (a + i) ∷ l) (shifted a (i + 1) xs ∙ ap (λ j. from_index j xs) z)
shifted a i (false ∷ xs) = let z : a + (i + 1) ≡ a + i + 1 = omega arith in shifted a (i + 1) xs ∙ ap (λ j. from_index j xs) z

-- the indices of the ones of a part, counted from the list's start
pub part_ones : (xs : List Bool) (a b : ℕ) → a ≤ b → b ≤ length xs → map (λ i. a + i) (ones_of (slice_range xs a b)) ≡ places_between (λ b. b) xs a b
part_ones xs a b ordered inside =
    let run : List Bool = slice_range xs a b in
    let size : length run ≡ b - a = length-between xs a b inside in
    let z : a + 0 ≡ a = omega arith in
    ap (map (λ i. a + i)) (ones_are run) ∙ shifted a 0 run ∙ ap (λ j. from_index j run) z
    ∙ sym (ap (λ n. filter (λ j. get_or xs j false) (range_with_len a n)) (sym size) ∙ places_are xs run a (λ k h. sym (item_of_part xs a b k (omega arith))))

-- ---- indices that are left

-- indices below the part's length fit from its base on
pub fit_from_all : (base n : ℕ) (l : List ℕ) → All (λ i. i < n) l → base + n ≤ MAX_BITS → FitFrom base l
fit_from_all base n l all room = record { each = λ k h. let low = all k 0 h in omega arith }

-- after the first index is taken the others still fit
pub fit_rest : (base x : ℕ) (l m : List ℕ) → FitFrom base l → l ≡ x ∷ m → FitFrom base m
fit_rest base x l m fit is = let all : FitFrom base (x ∷ m) = subst (FitFrom base) is fit in record { each = λ k h. all.each (suc k) (omega arith) }

-- after the last index is taken the others still fit
pub fit_front : (base x : ℕ) (l m : List ℕ) → FitFrom base l → l ≡ m ++ x ∷ [] → FitFrom base m
fit_front base x l m fit is =
    let all : FitFrom base (m ++ x ∷ []) = subst (FitFrom base) is fit in
    let size = length-append m (x ∷ []) in
    record { each = λ k h. let here = all.each k (omega arith) in let same = get_or_append_left m (x ∷ []) 0 k h in omega arith }

-- after a step from the front or from the end the indices that are left still fit
pub fit_stepped : {S : Type 0} (rest : S → List ℕ) (s t : S) (r : Option ℕ) (base : ℕ) → YieldsFirst rest s r t → FitFrom base (rest s) → FitFrom base (rest t)
fit_stepped rest s t None base step fit = subst (FitFrom base) (step.0 ∙ sym step.1) fit
fit_stepped rest s t (Some x) base step fit = fit_rest base x (rest s) (rest t) fit step

-- a step from the back leaves indices that fit
pub fit_stepped_back : {S : Type 0} (rest : S → List ℕ) (s t : S) (r : Option ℕ) (base : ℕ) → YieldsLast rest s r t → FitFrom base (rest s) → FitFrom base (rest t)
fit_stepped_back rest s t None base step fit = subst (FitFrom base) (step.0 ∙ sym step.1) fit
fit_stepped_back rest s t (Some x) base step fit = fit_front base x (rest s) (rest t) fit step

-- as many ones are left from an index on as the indices without the first k of them
pub left_count : (xs : List Bool) (base k : ℕ) → base ≤ length xs → places_between (λ b. b) xs base (length xs) ≡ drop k (ones_of xs) → count_by (λ b. b) (slice_range xs base (length xs)) ≡ count_by (λ b. b) xs - k
left_count xs base k inside is =
    let size : length (ones_of xs) ≡ count_by (λ b. b) xs = as_many (λ b. b) xs (length xs) (omega arith) ∙ before_end (λ b. b) xs (length xs) refl in
    sym (places_count (λ b. b) xs base (length xs) inside (omega arith)) ∙ ap length is ∙ length-drop k (ones_of xs) ∙ ap (λ n. n - k) size
