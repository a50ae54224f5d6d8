-- Rules for callers: what follows of lists of bits that are combined, flipped or counted. A crate of callers names those that it needs in the line at its head.
use Rattle.std.proofs.Common.{◌≡◌, ℕ, zero, suc, ◌+◌, ◌≤◌, Bool, true, false, not, cond, ◌&&◌, ◌||◌, List, [], ◌∷◌, map, length, replicate, refl, ap, arith}
use Rattle.std.specs.Prelude.{count_by, if◌then◌else◌}
use Rattle.std.proofs.lemmas.List.{length-map}
use Rattle.std.proofs.lemmas.List.Sums.{sum_by-cons}
use Rattle.bit_slice.specs.Operators.{combined, and_of, or_of, xor_of, CombinesEach, AndsEach, OrsEach, XorsEach, FlipsEach}
use Rattle.bit_slice.proofs.Combining.{length-combined}

-- ---- a list with itself

-- `and` with itself is the list
pub and_with_itself : (xs : List Bool) → and_of xs xs ≡ xs
and_with_itself [] = refl
and_with_itself (false ∷ xs) = ap (λ l. false ∷ l) (and_with_itself xs)
and_with_itself (true ∷ xs) = ap (λ l. true ∷ l) (and_with_itself xs)

-- `or` with itself is the list
pub or_with_itself : (xs : List Bool) → or_of xs xs ≡ xs
or_with_itself [] = refl
or_with_itself (false ∷ xs) = ap (λ l. false ∷ l) (or_with_itself xs)
or_with_itself (true ∷ xs) = ap (λ l. true ∷ l) (or_with_itself xs)

-- `xor` with itself is false everywhere
pub xor_with_itself : (xs : List Bool) → xor_of xs xs ≡ replicate (length xs) false
xor_with_itself [] = refl
xor_with_itself (false ∷ xs) = ap (λ l. false ∷ l) (xor_with_itself xs)
xor_with_itself (true ∷ xs) = ap (λ l. false ∷ l) (xor_with_itself xs)

-- ---- a list with one bit repeated

-- `and` with false bits is false everywhere
pub and_with_false : (xs : List Bool) (n : ℕ) → and_of xs (replicate n false) ≡ replicate (length xs) false
and_with_false [] n = refl
and_with_false (false ∷ xs) zero = ap (λ l. false ∷ l) (and_with_false xs 0)
and_with_false (true ∷ xs) zero = ap (λ l. false ∷ l) (and_with_false xs 0)
and_with_false (false ∷ xs) (suc n) = ap (λ l. false ∷ l) (and_with_false xs n)
and_with_false (true ∷ xs) (suc n) = ap (λ l. false ∷ l) (and_with_false xs n)

-- `and` with true bits is the list
pub and_with_true : (xs : List Bool) → and_of xs (replicate (length xs) true) ≡ xs
and_with_true [] = refl
and_with_true (false ∷ xs) = ap (λ l. false ∷ l) (and_with_true xs)
and_with_true (true ∷ xs) = ap (λ l. true ∷ l) (and_with_true xs)

-- `or` with false bits is the list
pub or_with_false : (xs : List Bool) (n : ℕ) → or_of xs (replicate n false) ≡ xs
or_with_false [] n = refl
or_with_false (false ∷ xs) zero = ap (λ l. false ∷ l) (or_with_false xs 0)
or_with_false (true ∷ xs) zero = ap (λ l. true ∷ l) (or_with_false xs 0)
or_with_false (false ∷ xs) (suc n) = ap (λ l. false ∷ l) (or_with_false xs n)
or_with_false (true ∷ xs) (suc n) = ap (λ l. true ∷ l) (or_with_false xs n)

-- `or` with true bits is true everywhere
pub or_with_true : (xs : List Bool) → or_of xs (replicate (length xs) true) ≡ replicate (length xs) true
or_with_true [] = refl
or_with_true (false ∷ xs) = ap (λ l. true ∷ l) (or_with_true xs)
or_with_true (true ∷ xs) = ap (λ l. true ∷ l) (or_with_true xs)

-- `xor` with false bits is the list
pub xor_with_false : (xs : List Bool) (n : ℕ) → xor_of xs (replicate n false) ≡ xs
xor_with_false [] n = refl
xor_with_false (false ∷ xs) zero = ap (λ l. false ∷ l) (xor_with_false xs 0)
xor_with_false (true ∷ xs) zero = ap (λ l. true ∷ l) (xor_with_false xs 0)
xor_with_false (false ∷ xs) (suc n) = ap (λ l. false ∷ l) (xor_with_false xs n)
xor_with_false (true ∷ xs) (suc n) = ap (λ l. true ∷ l) (xor_with_false xs n)

-- `xor` with true bits flips each bit
pub xor_with_true : (xs : List Bool) → xor_of xs (replicate (length xs) true) ≡ map not xs
xor_with_true [] = refl
xor_with_true (false ∷ xs) = ap (λ l. true ∷ l) (xor_with_true xs)
xor_with_true (true ∷ xs) = ap (λ l. false ∷ l) (xor_with_true xs)

-- ---- two lists

-- `xor` twice with the same list is the list
pub xor_twice : (xs ys : List Bool) → xor_of (xor_of xs ys) ys ≡ xs
xor_twice [] ys = refl
xor_twice (false ∷ xs) [] = ap (λ l. false ∷ l) (xor_twice xs [])
xor_twice (true ∷ xs) [] = ap (λ l. true ∷ l) (xor_twice xs [])
xor_twice (false ∷ xs) (false ∷ ys) = ap (λ l. false ∷ l) (xor_twice xs ys)
xor_twice (true ∷ xs) (false ∷ ys) = ap (λ l. true ∷ l) (xor_twice xs ys)
xor_twice (false ∷ xs) (true ∷ ys) = ap (λ l. false ∷ l) (xor_twice xs ys)
xor_twice (true ∷ xs) (true ∷ ys) = ap (λ l. true ∷ l) (xor_twice xs ys)

-- two lists exchanged by three steps
pub xor_back : (xs ys : List Bool) → length xs ≡ length ys → xor_of ys (xor_of xs ys) ≡ xs
xor_back [] [] h = refl
xor_back [] (y ∷ ys) h = absurd (omega arith)
xor_back (x ∷ xs) [] h = absurd (omega arith)
xor_back (false ∷ xs) (false ∷ ys) h = ap (λ l. false ∷ l) (xor_back xs ys (omega arith))
xor_back (true ∷ xs) (false ∷ ys) h = ap (λ l. true ∷ l) (xor_back xs ys (omega arith))
xor_back (false ∷ xs) (true ∷ ys) h = ap (λ l. false ∷ l) (xor_back xs ys (omega arith))
xor_back (true ∷ xs) (true ∷ ys) h = ap (λ l. true ∷ l) (xor_back xs ys (omega arith))

-- `xor` with the first list gives the second
pub xor_other : (xs ys : List Bool) → length xs ≡ length ys → xor_of (xor_of xs ys) xs ≡ ys
xor_other [] [] h = refl
xor_other [] (y ∷ ys) h = absurd (omega arith)
xor_other (x ∷ xs) [] h = absurd (omega arith)
xor_other (false ∷ xs) (false ∷ ys) h = ap (λ l. false ∷ l) (xor_other xs ys (omega arith))
xor_other (true ∷ xs) (false ∷ ys) h = ap (λ l. false ∷ l) (xor_other xs ys (omega arith))
xor_other (false ∷ xs) (true ∷ ys) h = ap (λ l. true ∷ l) (xor_other xs ys (omega arith))
xor_other (true ∷ xs) (true ∷ ys) h = ap (λ l. true ∷ l) (xor_other xs ys (omega arith))

-- flipping `and` is `or` of the flipped lists
pub not_of_and : (xs ys : List Bool) → length xs ≤ length ys → map not (and_of xs ys) ≡ or_of (map not xs) (map not ys)
not_of_and [] ys h = refl
not_of_and (x ∷ xs) [] h = absurd (omega arith)
not_of_and (false ∷ xs) (y ∷ ys) h = ap (λ l. true ∷ l) (not_of_and xs ys (omega arith))
not_of_and (true ∷ xs) (y ∷ ys) h = ap (λ l. not y ∷ l) (not_of_and xs ys (omega arith))

-- flipping `or` is `and` of the flipped lists
pub not_of_or : (xs ys : List Bool) → length xs ≤ length ys → map not (or_of xs ys) ≡ and_of (map not xs) (map not ys)
not_of_or [] ys h = refl
not_of_or (x ∷ xs) [] h = absurd (omega arith)
not_of_or (false ∷ xs) (y ∷ ys) h = ap (λ l. not y ∷ l) (not_of_or xs ys (omega arith))
not_of_or (true ∷ xs) (y ∷ ys) h = ap (λ l. false ∷ l) (not_of_or xs ys (omega arith))

-- ---- one item

-- each index of a combination
pub item_of_combined : (f : Bool → Bool → Bool) (xs ys : List Bool) → CombinesEach f xs ys (combined f xs ys)
item_of_combined f [] ys i x y left right = cc
item_of_combined f (a ∷ xs) [] i x y left right = cc
item_of_combined f (a ∷ xs) (b ∷ ys) zero x y left right = let e : a ≡ x = cc in let d : b ≡ y = cc in cc
item_of_combined f (a ∷ xs) (b ∷ ys) (suc i) x y left right = item_of_combined f xs ys i x y left right

-- each index of `and`
pub item_of_and : (xs ys : List Bool) → AndsEach xs ys (and_of xs ys)
item_of_and = item_of_combined (λ x y. x && y)

-- each index of `or`
pub item_of_or : (xs ys : List Bool) → OrsEach xs ys (or_of xs ys)
item_of_or = item_of_combined (λ x y. x || y)

-- each index of `xor`
pub item_of_xor : (xs ys : List Bool) → XorsEach xs ys (xor_of xs ys)
item_of_xor = item_of_combined (λ x y. if x then not y else y)

-- each index of a flipped list
pub item_of_not : (xs : List Bool) → FlipsEach xs (map not xs)
item_of_not [] i x is = cc
item_of_not (a ∷ xs) zero x is = let e : a ≡ x = cc in cc
item_of_not (a ∷ xs) (suc i) x is = item_of_not xs i x is

-- ---- lengths and counts

-- `and` is as long as its left list
pub length_of_and : (xs ys : List Bool) → length (and_of xs ys) ≡ length xs
length_of_and = length-combined (λ x y. x && y)

-- `or` is as long as its left list
pub length_of_or : (xs ys : List Bool) → length (or_of xs ys) ≡ length xs
length_of_or = length-combined (λ x y. x || y)

-- `xor` is as long as its left list
pub length_of_xor : (xs ys : List Bool) → length (xor_of xs ys) ≡ length xs
length_of_xor = length-combined (λ x y. if x then not y else y)

-- a flipped list keeps its length
pub length_of_not : (xs : List Bool) → length (map not xs) ≡ length xs
length_of_not xs = length-map xs not

-- the ones and the zeros are all bits
pub zeros_and_ones : (xs : List Bool) → count_by (λ b. b) xs + count_by not xs ≡ length xs
zeros_and_ones [] = refl
zeros_and_ones (true ∷ xs) =
    let ones : count_by (λ b. b) (true ∷ xs) ≡ 1 + count_by (λ b. b) xs = sum_by-cons (λ x. cond x 1 0) true xs in
    let zeros : count_by not (true ∷ xs) ≡ 0 + count_by not xs = sum_by-cons (λ x. cond (not x) 1 0) true xs in
    let size : length (true ∷ xs) ≡ suc (length xs) = refl in
    omega (arith, zeros_and_ones xs)
zeros_and_ones (false ∷ xs) =
    let ones : count_by (λ b. b) (false ∷ xs) ≡ 0 + count_by (λ b. b) xs = sum_by-cons (λ x. cond x 1 0) false xs in
    let zeros : count_by not (false ∷ xs) ≡ 1 + count_by not xs = sum_by-cons (λ x. cond (not x) 1 0) false xs in
    let size : length (false ∷ xs) ≡ suc (length xs) = refl in
    omega (arith, zeros_and_ones xs)
