-- Bits in turn, and lists without equal neighbours.
use Rattle.std.proofs.Common.{◌≡◌, ℕ, zero, suc, ◌+◌, ◌-◌, ◌%◌, ◌<◌, ◌≤◌, min, Bool, true, false, not, cond, if◌then◌else◌, List, [], ◌∷◌, ◌++◌, length, take, drop, get_or, slice_range, rules, refl, sym, ◌∙◌, ap, arith}
use Rattle.std.specs.Prelude.{count_by}
use Rattle.std.specs.List.{dedup, dedup_from}
use Rattle.std.proofs.Math.Bool.{beq}
use Rattle.std.proofs.lemmas.List.{take-take, drop_all, ext_get_or, get_or-take, length-drop, length-take, take_all, places, same_lists}
use Rattle.std.proofs.lemmas.List.Sums.{count_by-le-length, sum_by-cons}
use Rattle.bit_addressing.specs.Row.{moved, number_bits, put}
use Rattle.bit_addressing.proofs.Shifts.{put_moved}
use Rattle.bit_addressing.proofs.lists.Shown.{length-run}
use Rattle.bit_rows.proofs.Binary.{get_or-number_bits, length-number_bits}
use Rattle.bit_slice.specs.Operators.{xor_of}
use Rattle.bit_slice.proofs.Combining.{length-combined}
use Rattle.bit_containers.specs.Repeated.{alternating}

-- ---- bits in turn

-- n alternating bits have length n
pub length-alternating : (n : ℕ) (b : Bool) → length (alternating n b) ≡ n
length-alternating zero b = refl
length-alternating (suc n) b = ap suc (length-alternating n (not b))

-- the first n of alternating bits are n alternating bits
pub take_alternating : (n m : ℕ) (b : Bool) → n ≤ m → take n (alternating m b) ≡ alternating n b
take_alternating zero m b h = refl
take_alternating (suc n) zero b h = absurd (omega arith)
take_alternating (suc n) (suc m) b h = ap (λ l. b ∷ l) (take_alternating n m (not b) (omega arith))

-- after an even number of bits the first one comes again
pub alternating_on : (k n : ℕ) (b : Bool) → k % 2 ≡ 0 → alternating k b ++ alternating n b ≡ alternating (k + n) b
alternating_on zero n b even = let e : n ≡ 0 + n = omega arith in ap (λ k. alternating k b) e
alternating_on (suc zero) n b even = absurd (omega arith)
alternating_on (suc (suc k)) n b even =
    let e : suc (suc (k + n)) ≡ suc (suc k) + n = omega arith in
    ap (λ l. b ∷ not b ∷ l) (ap (λ d. alternating k d ++ alternating n b) (not_not b) ∙ alternating_on k n b (omega arith) ∙ ap (alternating (k + n)) (sym (not_not b)))
    ∙ ap (λ m. alternating m b) e
  where
    not_not : (b : Bool) → not (not b) ≡ b
    not_not true = refl
    not_not false = refl

-- up to 64 bits of the two numbers that have them in turn
pub from_true : number_bits 0x5555555555555555 64 ≡ alternating 64 true
unfolding number_bits
from_true = refl

-- the number 0xAAAA.. is 64 alternating bits from false on
pub from_false : number_bits 0xAAAAAAAAAAAAAAAA 64 ≡ alternating 64 false
unfolding number_bits
from_false = refl

-- the fewer bits of a number are the first of more
number_bits_first : (x n m : ℕ) → n ≤ m → number_bits x n ≡ take n (number_bits x m)
number_bits_first x n m few =
    let all = length-number_bits x m in
    ext_get_or false _ _ (length-number_bits x n ∙ sym (length-take n (number_bits x m) ∙ omega (arith, all, few)))
    (λ i below. let inside : i < n = omega (arith, below, length-number_bits x n) in get_or-number_bits x n i inside ∙ sym (get_or-take n (number_bits x m) i false inside ∙ get_or-number_bits x m i (omega (arith, inside, few))))

-- the first items where others were written after some
take_put : (xs ys : List Bool) (at n : ℕ) → length ys ≡ n → at + n ≤ length xs → take (at + n) (put xs at ys) ≡ take at xs ++ ys
unfolding put
take_put xs ys at n size room = same_lists _ _ (search (rules, places)) (λ i d below. grind (arith, places))

-- written after an even number of bits in turn, more of them go on
pub turns_written : (xs : List Bool) (at n number : ℕ) (b : Bool) → at + n ≤ length xs → n ≤ 64 → at % 2 ≡ 0 → number_bits number 64 ≡ alternating 64 b → take at xs ≡ alternating at b → take (at + n) (put xs at (number_bits number n)) ≡ alternating (at + n) b
turns_written xs at n number b room few even turns so_far =
    let ys = number_bits number n in
    let more : ys ≡ alternating n b = number_bits_first number n 64 few ∙ ap (take n) turns ∙ take_alternating n 64 b few in
    take_put xs ys at n (length-number_bits number n) room ∙ ap (λ l. l ++ ys) so_far ∙ ap (λ l. alternating at b ++ l) more ∙ alternating_on at n b even

-- copied after an even number of bits in turn, they go on
pub turns_copied : (xs : List Bool) (at n : ℕ) (b : Bool) → at + n ≤ length xs → n ≤ at → at % 2 ≡ 0 → take at xs ≡ alternating at b → take (at + n) (moved xs 0 at n) ≡ alternating (at + n) b
turns_copied xs at n b room few even so_far =
    let ys = slice_range xs 0 (0 + n) in
    let e : 0 + n - 0 ≡ min n at = omega arith in
    let front : ys ≡ take n (take at xs) = ap (λ k. take k xs) e ∙ sym (take-take n at xs few ∙ ap (λ k. take k xs) (omega arith)) in
    ap (take (at + n)) (sym (put_moved xs 0 at n (omega arith) room))
    ∙ take_put xs ys at n (length-run xs 0 n (omega arith)) room
    ∙ ap (λ l. l ++ ys) so_far
    ∙ ap (λ l. alternating at b ++ l) (front ∙ ap (take n) so_far ∙ take_alternating n at b few)
    ∙ alternating_on at n b even

-- ---- without equal neighbours

-- how many items differ from the one before
abbrev changes : Bool → List Bool → ℕ
changes x xs = count_by (λ b. b) (xor_of (take (length xs) (x ∷ xs)) xs)

changes_one : (x y : Bool) (ys : List Bool) → changes x (y ∷ ys) ≡ cond (if x then not y else y) 1 0 + changes y ys
changes_one x y ys = sum_by-cons (λ b. cond b 1 0) (if x then not y else y) (xor_of (take (length ys) (y ∷ ys)) ys)

deduped_from : (x : Bool) (xs : List Bool) → dedup_from beq x xs ≡ alternating (changes x xs + 1) x
deduped_from x [] = let e : 1 ≡ changes x [] + 1 = omega arith in ap (λ n. alternating n x) e
deduped_from false (false ∷ ys) =
    let e : changes false ys + 1 ≡ changes false (false ∷ ys) + 1 = (let one = changes_one false false ys in omega (arith, one)) in
    deduped_from false ys ∙ ap (λ n. alternating n false) e
deduped_from true (true ∷ ys) =
    let e : changes true ys + 1 ≡ changes true (true ∷ ys) + 1 = (let one = changes_one true true ys in omega (arith, one)) in
    deduped_from true ys ∙ ap (λ n. alternating n true) e
deduped_from false (true ∷ ys) =
    let more : suc (changes true ys + 1) ≡ changes false (true ∷ ys) + 1 = (let one = changes_one false true ys in omega (arith, one)) in
    ap (λ l. false ∷ l) (deduped_from true ys) ∙ ap (λ n. alternating n false) more
deduped_from true (false ∷ ys) =
    let more : suc (changes false ys + 1) ≡ changes true (false ∷ ys) + 1 = (let one = changes_one true false ys in omega (arith, one)) in
    ap (λ l. true ∷ l) (deduped_from false ys) ∙ ap (λ n. alternating n true) more

-- as many bits in turn as items differ from the one before, and one more
pub deduped : (xs : List Bool) (first : Bool) (n : ℕ) → length xs ≡ n + 1 → first ≡ get_or xs 0 false → dedup beq xs ≡ alternating (count_by (λ b. b) (xor_of (take n xs) (drop 1 xs)) + 1) first
deduped [] first n size is = absurd (omega arith)
deduped (x ∷ xs) first n size is =
    let e : length xs ≡ n = omega arith in
    deduped_from x xs
    ∙ ap (λ k. alternating (count_by (λ b. b) (xor_of (take k (x ∷ xs)) xs) + 1) x) e
    ∙ ap (alternating (count_by (λ b. b) (xor_of (take n (x ∷ xs)) xs) + 1)) (sym is)

-- how many items differ from the one before, counted of two parts
pub changes_counted : (xs front back : List Bool) (n len result : ℕ) → length xs ≡ n + 1 → front ≡ slice_range xs 0 n → back ≡ slice_range xs 1 (n + 1) → len ≡ n → result ≡ count_by (λ b. b) (xor_of front back) + count_by (λ b. b) (drop len back) → result ≡ count_by (λ b. b) (xor_of (take n xs) (drop 1 xs))
changes_counted xs front back n len result size is_front is_back is_len is =
    let rest : length (drop 1 xs) ≡ n = (let e = length-drop 1 xs in omega (arith, e, size)) in
    let n_front : n - 0 ≡ n = omega arith in
    let n_back : n + 1 - 1 ≡ n = omega arith in
    let whole : back ≡ drop 1 xs = is_back ∙ ap (λ k. take k (drop 1 xs)) n_back ∙ take_all n (drop 1 xs) (omega (arith, rest)) in
    let none : drop len back ≡ [] = drop_all len back (let e = ap length whole in omega (arith, e, rest, is_len)) in
    let zero_more : count_by (λ b. b) (xor_of front back) + count_by (λ b. b) [] ≡ count_by (λ b. b) (xor_of front back) = omega arith in
    is
    ∙ ap (λ l. count_by (λ b. b) (xor_of front back) + count_by (λ b. b) l) none
    ∙ zero_more
    ∙ ap (λ l. count_by (λ b. b) (xor_of l back)) (is_front ∙ ap (λ k. take k xs) n_front)
    ∙ ap (λ l. count_by (λ b. b) (xor_of (take n xs) l)) whole

-- they are fewer than the items
pub changes_fewer : (xs : List Bool) (n : ℕ) → length xs ≡ n + 1 → count_by (λ b. b) (xor_of (take n xs) (drop 1 xs)) ≤ n
changes_fewer xs n size =
    let most = count_by-le-length (λ b. b) (xor_of (take n xs) (drop 1 xs)) in
    let long = length-combined (λ x y. if x then not y else y) (take n xs) (drop 1 xs) in
    let front = length-take n xs in
    omega (arith, most, long, front)
