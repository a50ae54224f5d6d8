-- How many numbers are in both of two sets, in either, and in one alone.
use Rattle.std.proofs.Common.{◌≡◌, ℕ, zero, suc, ◌+◌, ◌-◌, ◌*◌, ◌≤◌, Bool, true, false, not, ◌&&◌, cond, List, [], ◌∷◌, ◌++◌, count_by, drop, length, replicate, refl, sym, ◌∙◌, ap, arith}
use Rattle.std.proofs.lemmas.List.{length-append, length-replicate}
use Rattle.std.proofs.lemmas.List.Sums.{count_by-le-length, sum_by-cons}
use Rattle.bit_slice.specs.Operators.{and_not_of, and_of, or_of, xor_of}
use Rattle.bit_slice.specs.Places.{ones_of}
use Rattle.bit_slice.proofs.Places.{places_count_all, places_whole}
use Rattle.bit_slice.proofs.Sets.{or_and, xor_and}
use Rattle.bit_containers.specs.Making.{filled_up}

abbrev ones : List Bool → ℕ
ones xs = count_by (λ b. b) xs

one_more : (x : Bool) (xs : List Bool) → ones (x ∷ xs) ≡ cond x 1 0 + ones xs
one_more x xs = sum_by-cons (λ b. cond b 1 0) x xs

-- a set has as many numbers as its list has ones
pub members_counted : (xs : List Bool) → length (ones_of xs) ≡ ones xs
members_counted xs = ap length (sym (places_whole (λ b. b) xs (length xs) refl)) ∙ places_count_all (λ b. b) xs (length xs) refl

none_in_both : (n : ℕ) (ys : List Bool) → ones (and_of (replicate n false) ys) ≡ 0
none_in_both zero ys = refl
none_in_both (suc n) [] = omega (arith, one_more false (and_of (replicate n false) []), none_in_both n [])
none_in_both (suc n) (y ∷ ys) = omega (arith, one_more false (and_of (replicate n false) ys), none_in_both n ys)

none_added : (n : ℕ) → ones (replicate n false) ≡ 0
none_added zero = refl
none_added (suc n) = omega (arith, one_more false (replicate n false), none_added n)

-- false appended to a list adds no one
filled_ones : (xs : List Bool) (n : ℕ) → ones (xs ++ replicate n false) ≡ ones xs
filled_ones [] n = none_added n
filled_ones (x ∷ xs) n = omega (arith, one_more x (xs ++ replicate n false), one_more x xs, filled_ones xs n)

filled_both : (xs ys : List Bool) (n : ℕ) → ones (and_of (xs ++ replicate n false) ys) ≡ ones (and_of xs ys)
filled_both [] ys n = none_in_both n ys
filled_both (x ∷ xs) [] n = omega (arith, one_more (x && false) (and_of (xs ++ replicate n false) []), one_more (x && false) (and_of xs []), filled_both xs [] n)
filled_both (x ∷ xs) (y ∷ ys) n = omega (arith, one_more (x && y) (and_of (xs ++ replicate n false) ys), one_more (x && y) (and_of xs ys), filled_both xs ys n)

drop_all : (ys : List Bool) (n : ℕ) → length ys ≤ n → drop n ys ≡ []
drop_all [] zero h = refl
drop_all [] (suc n) h = refl
drop_all (y ∷ ys) zero h = absurd (omega (arith, h))
drop_all (y ∷ ys) (suc n) h = drop_all ys n (omega arith)

module _ (xs ys : List Bool) where
  long_enough : length ys ≤ length (filled_up xs (length ys))
  long_enough = let a = length-append xs (replicate (length ys - length xs) false) in let b = length-replicate (length ys - length xs) false in omega arith

  none_past : ones (drop (length (filled_up xs (length ys))) ys) ≡ 0
  none_past = ap ones (drop_all ys (length (filled_up xs (length ys))) long_enough)

  -- the size of a union, from the sizes and the common members
  pub in_either : (n : ℕ) → n + ones (and_of xs ys) ≡ ones xs + ones ys → n ≡ length (ones_of (or_of (filled_up xs (length ys)) ys))
  in_either n sum =
      let zs = filled_up xs (length ys) in
      omega (arith, sum, or_and zs ys, none_past, filled_ones xs (length ys - length xs), filled_both xs ys (length ys - length xs), members_counted (or_of zs ys))

  -- the size of a symmetric difference, from the sizes and the common members
  pub in_one_alone : (n : ℕ) → n + 2 * ones (and_of xs ys) ≡ ones xs + ones ys → n ≡ length (ones_of (xor_of (filled_up xs (length ys)) ys))
  in_one_alone n sum =
      let zs = filled_up xs (length ys) in
      omega (arith, sum, xor_and zs ys, none_past, filled_ones xs (length ys - length xs), filled_both xs ys (length ys - length xs), members_counted (xor_of zs ys))

  -- the size of an intersection is the count of common bits
  pub in_both : (n : ℕ) → n ≡ ones (and_of xs ys) → n ≡ length (ones_of (and_of (filled_up xs (length ys)) ys))
  in_both n is = is ∙ sym (filled_both xs ys (length ys - length xs)) ∙ sym (members_counted (and_of (filled_up xs (length ys)) ys))

-- a number of the left set is in both or in the left one alone
step : (x y : Bool) → cond (x && not y) 1 0 + cond (x && y) 1 0 ≡ cond x 1 0
step true true = refl
step true false = refl
step false true = refl
step false false = refl

apart : (xs ys : List Bool) → ones (and_not_of xs ys) + ones (and_of xs ys) ≡ ones xs
apart [] ys = refl
apart (x ∷ xs) [] = omega (arith, one_more (x && true) (and_not_of xs []), one_more (x && false) (and_of xs []), one_more x xs, step x false, apart xs [])
apart (x ∷ xs) (y ∷ ys) = omega (arith, one_more (x && not y) (and_not_of xs ys), one_more (x && y) (and_of xs ys), one_more x xs, step x y, apart xs ys)

-- the size of a difference, from the size and the common members
pub left_alone : (xs ys : List Bool) (all both : ℕ) → all ≡ ones xs → both ≡ ones (and_of xs ys) → all - both ≡ length (ones_of (and_not_of (filled_up xs (length ys)) ys))
left_alone xs ys all both is here =
    let zs = filled_up xs (length ys) in
    let more = length ys - length xs in
    omega (arith, is, here, apart zs ys, filled_ones xs more, filled_both xs ys more, members_counted (and_not_of zs ys))

-- there are at most as many common members as members
pub both_at_most : (xs ys : List Bool) (all both : ℕ) → all ≡ ones xs → both ≡ ones (and_of xs ys) → both ≤ all
both_at_most xs ys all both is here = omega (arith, is, here, apart xs ys)

-- no more numbers are left than a list has items
pub few_ones : (l : List ℕ) (xs : List Bool) (limit : ℕ) → length l ≡ count_by (λ b. b) xs → length xs ≤ limit → length l ≤ limit
few_ones l xs limit is few = let most = count_by-le-length (λ b. b) xs in omega arith
