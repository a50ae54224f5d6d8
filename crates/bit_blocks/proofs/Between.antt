-- The numbers of a list that are in a range.
use Rattle.std.proofs.Common.{◌≡◌, ℕ, zero, suc, ◌+◌, ◌-◌, ◌<◌, ◌≤◌, Bool, true, false, cond, ◌&&◌, leb, List, [], ◌∷◌, ◌++◌, append-nil, get_or, length, length-drop, length-take, map, take, drop, refl, sym, ◌∙◌, ap, inl, inr, arith}
use Rattle.std.specs.Prelude.{All, count_by, slice_range}
use Rattle.std.specs.List.{filter}
use Rattle.std.proofs.Math.Bool.{and-false, and-true}
use Rattle.std.proofs.lemmas.Bool.{cases_Bool, cases_lt, le-leb, lt-leb}
use Rattle.std.proofs.lemmas.List.{length-map}
use Rattle.std.proofs.lemmas.List.Elements.{filter-append}
use Rattle.bit_addressing.proofs.lists.Shown.{length-between}
use Rattle.bit_slice.proofs.Found.{item_of_part}
use Rattle.bit_slice.specs.Places.{ones_of}
use Rattle.bit_blocks.specs.Bits.{AreBits}
use Rattle.bit_blocks.specs.Numbers.{AscendsIn, count_below, count_where, has, is_between, numbers_between, those}
use Rattle.bit_blocks.specs.Runs.{numbers_of_run}
use Rattle.bit_blocks.specs.declared.ranged.Run.{Run}
use Rattle.bit_blocks.proofs.Ascending.{counts_at_most, counts_first, none_below, skips_first}
use Rattle.bit_blocks.proofs.Bits.{ascends_ones, ones_count, ones_those}
use Rattle.bit_blocks.proofs.Counting.{count_run}
use Rattle.bit_blocks.proofs.Stepping.{Small}
use Rattle.bit_blocks.proofs.Those.{those_empty, those_here, those_joined, those_none, those_not_here, those_same}

-- a number of the range
pub in_between : (first last x : ℕ) → first ≤ x → x ≤ last → is_between first last x ≡ true
in_between first last x low high = ap (λ b. b && leb x last) (le-leb first x low) ∙ le-leb x last high

-- a number before the range, and one after it
pub before_range : (first last x : ℕ) → x < first → is_between first last x ≡ false
before_range first last x low = ap (λ b. b && leb x last) (lt-leb first x low)

pub after_range : (first last x : ℕ) → last < x → is_between first last x ≡ false
after_range first last x high = ap (λ b. leb first x && b) (lt-leb x last high) ∙ and-false (leb first x)

-- a list whose first number is in the range, or not
pub takes_first : (first last x : ℕ) (xs : List ℕ) → is_between first last x ≡ true → numbers_between first last (x ∷ xs) ≡ x ∷ numbers_between first last xs
takes_first first last x xs here = ap (λ b. cond b (x ∷ numbers_between first last xs) (numbers_between first last xs)) here

pub leaves_first : (first last x : ℕ) (xs : List ℕ) → is_between first last x ≡ false → numbers_between first last (x ∷ xs) ≡ numbers_between first last xs
leaves_first first last x xs out = ap (λ b. cond b (x ∷ numbers_between first last xs) (numbers_between first last xs)) out

-- a range that ends before it begins has no number
pub none_between : (first last : ℕ) (xs : List ℕ) → last < first → numbers_between first last xs ≡ []
none_between first last [] none = refl
none_between first last (x ∷ xs) none = elim (cases_lt x first) [
  | inl low ↦ leaves_first first last x xs (before_range first last x low) ∙ none_between first last xs none
  | inr high ↦ leaves_first first last x xs (after_range first last x (omega arith)) ∙ none_between first last xs none
]

-- two lists, one after the other
pub between_append : (first last : ℕ) (xs ys : List ℕ) → numbers_between first last (xs ++ ys) ≡ numbers_between first last xs ++ numbers_between first last ys
between_append first last xs ys = filter-append (λ k. is_between first last k) xs ys

-- numbers that begin after a range
none_after : (from upto : ℕ) (xs : List ℕ) (first last : ℕ) → AscendsIn from upto xs → last < from → numbers_between first last xs ≡ []
none_after from upto [] first last h past = refl
none_after from upto (x ∷ xs) first last h past = let low = h.0 in leaves_first first last x xs (after_range first last x (omega arith)) ∙ none_after (x + 1) upto xs first last h.2 (omega arith)

-- numbers that are all in a range
pub all_between : (from upto : ℕ) (xs : List ℕ) (first last : ℕ) → AscendsIn from upto xs → first ≤ from → upto ≤ last + 1 → numbers_between first last xs ≡ xs
all_between from upto [] first last h low high = refl
all_between from upto (x ∷ xs) first last h low high =
    let more = h.0 in
    let most = h.1 in
    takes_first first last x xs (in_between first last x (omega arith) (omega arith)) ∙ ap (λ l. x ∷ l) (all_between (x + 1) upto xs first last h.2 (omega arith) high)

-- no fewer numbers are below a greater bound
pub below_up : (xs : List ℕ) (a b : ℕ) → a ≤ b → count_below xs a ≤ count_below xs b
below_up [] a b up = omega arith
below_up (x ∷ xs) a b up = let rest = below_up xs a b up in elim (cases_lt x a) [
  | inl low ↦ (let e = counts_first x xs a low in let f = counts_first x xs b (omega arith) in omega arith)
  | inr high ↦ (let e = skips_first x xs a high in elim (cases_lt x b) [
    | inl below ↦ (let f = counts_first x xs b below in omega arith)
    | inr past ↦ (let f = skips_first x xs b past in omega arith)
  ])
]

drop_none : (xs : List ℕ) → drop 0 xs ≡ xs
drop_none [] = refl
drop_none (x ∷ xs) = refl

-- ascending numbers of a range stand between two places
pub between_places : (from upto : ℕ) (xs : List ℕ) (first last : ℕ) → AscendsIn from upto xs → first ≤ last → numbers_between first last xs ≡ slice_range xs (count_below xs first) (count_below xs (last + 1))
between_places from upto [] first last h ordered = refl
between_places from upto (x ∷ xs) first last h ordered =
    let a = count_below xs first in
    let b = count_below xs (last + 1) in
    let rest = between_places (x + 1) upto xs first last h.2 ordered in
    elim (cases_lt x first) [
      | inl low ↦ (
          let e : suc b - suc a ≡ b - a = omega arith in
          leaves_first first last x xs (before_range first last x low) ∙ rest
          ∙ sym (ap (λ n. take (n - count_below (x ∷ xs) first) (drop (count_below (x ∷ xs) first) (x ∷ xs))) (counts_first x xs (last + 1) (omega arith))
          ∙ ap (λ m. take (suc b - m) (drop m (x ∷ xs))) (counts_first x xs first low)
          ∙ ap (λ n. take n (drop a xs)) e))
      | inr high ↦ (
          let none : a ≡ 0 = none_below (x + 1) upto xs first h.2 (omega arith) in
          let begins : count_below (x ∷ xs) first ≡ 0 = skips_first x xs first high ∙ none in
          elim (cases_lt last x) [
            | inl past ↦ (
                let ends : count_below (x ∷ xs) (last + 1) ≡ 0 = skips_first x xs (last + 1) (omega arith) ∙ none_below (x + 1) upto xs (last + 1) h.2 (omega arith) in
                leaves_first first last x xs (after_range first last x past) ∙ none_after (x + 1) upto xs first last h.2 (omega arith)
                ∙ sym (ap (λ n. take (n - count_below (x ∷ xs) first) (drop (count_below (x ∷ xs) first) (x ∷ xs))) ends ∙ ap (λ m. take (0 - m) (drop m (x ∷ xs))) begins))
            | inr within ↦ (
                let e : b - 0 ≡ b = omega arith in
                let f : suc b - 0 ≡ suc b = omega arith in
                takes_first first last x xs (in_between first last x high within)
                ∙ ap (λ l. x ∷ l) (rest ∙ ap (λ m. take (b - m) (drop m xs)) none ∙ ap (λ n. take n (drop 0 xs)) e ∙ ap (take b) (drop_none xs))
                ∙ sym (ap (λ n. take (n - count_below (x ∷ xs) first) (drop (count_below (x ∷ xs) first) (x ∷ xs))) (counts_first x xs (last + 1) (omega arith))
                ∙ ap (λ m. take (suc b - m) (drop m (x ∷ xs))) begins
                ∙ ap (λ n. take n (x ∷ xs)) f))
          ])
    ]

-- ---- the true items of a part of bits

-- numbers that pass two tests
filter_those : (p q : ℕ → Bool) (a n : ℕ) → filter q (those p a n) ≡ those (λ k. p k && q k) a n
filter_those p q a zero = ap (filter q) (those_none p a) ∙ sym (those_none (λ k. p k && q k) a)
filter_those p q a (suc n) = let rest = filter_those p q (a + 1) n in elim (cases_Bool (p a)) [
  | inl here ↦ ap (filter q) (those_here p a n here) ∙ elim (cases_Bool (q a)) [
    | inl too ↦ ap (λ b. cond b (a ∷ filter q (those p (a + 1) n)) (filter q (those p (a + 1) n))) too ∙ ap (λ l. a ∷ l) rest
        ∙ sym (those_here (λ k. p k && q k) a n (ap (λ b. b && q a) here ∙ too))
    | inr out ↦ ap (λ b. cond b (a ∷ filter q (those p (a + 1) n)) (filter q (those p (a + 1) n))) out ∙ rest
        ∙ sym (those_not_here (λ k. p k && q k) a n (ap (λ b. b && q a) here ∙ out))
  ]
  | inr out ↦ ap (filter q) (those_not_here p a n out) ∙ rest ∙ sym (those_not_here (λ k. p k && q k) a n (ap (λ b. b && q a) out))
]

-- numbers that are moved up by b
those_moved : (p : ℕ → Bool) (b a n : ℕ) → map (λ i. b + i) (those p a n) ≡ those (λ k. p (k - b)) (b + a) n
those_moved p b a zero = ap (map (λ i. b + i)) (those_none p a) ∙ sym (those_none (λ k. p (k - b)) (b + a))
those_moved p b a (suc n) =
    let back : b + a - b ≡ a = omega arith in
    let next : b + (a + 1) ≡ b + a + 1 = omega arith in
    let rest = those_moved p b (a + 1) n ∙ ap (λ k. those (λ j. p (j - b)) k n) next in
    elim (cases_Bool (p a)) [
      | inl here ↦ ap (map (λ i. b + i)) (those_here p a n here) ∙ ap (λ l. (b + a) ∷ l) rest ∙ sym (those_here (λ k. p (k - b)) (b + a) n (ap p back ∙ here))
      | inr out ↦ ap (map (λ i. b + i)) (those_not_here p a n out) ∙ rest ∙ sym (those_not_here (λ k. p (k - b)) (b + a) n (ap p back ∙ out))
    ]

-- the numbers of a part of bits, from where it begins on, are those of the range
pub part_between : (bits : List Bool) (first last : ℕ) → AreBits bits → first ≤ last → last < 65536 → map (λ i. first + i) (ones_of (slice_range bits first (last + 1))) ≡ numbers_between first last (ones_of bits)
part_between bits first last size ordered most =
    let part = slice_range bits first (last + 1) in
    let n = last + 1 - first in
    let r = 65536 - (last + 1) in
    let p = λ (k : ℕ). get_or bits k false && is_between first last k in
    let begins : first + 0 ≡ first = omega arith in
    let z : 0 + first ≡ first = omega arith in
    let whole : first + (n + r) ≡ 65536 = omega arith in
    let front : those p 0 first ≡ [] = those_empty p 0 first (λ k low high. ap (λ b. get_or bits k false && b) (before_range first last k (omega arith)) ∙ and-false (get_or bits k false)) in
    let back : those p (first + n) r ≡ [] = those_empty p (first + n) r (λ k low high. ap (λ b. get_or bits k false && b) (after_range first last k (omega arith)) ∙ and-false (get_or bits k false)) in
    let same : those (λ k. get_or part (k - first) false) first n ≡ those p first n =
    those_same (λ k. get_or part (k - first) false) p first n (λ k low high.
    let at : first + (k - first) ≡ k = omega arith in
    item_of_part bits first (last + 1) (k - first) (omega arith) ∙ ap (λ j. get_or bits j false) at
    ∙ sym (ap (λ b. get_or bits k false && b) (in_between first last k low (omega arith)) ∙ and-true (get_or bits k false))) in
    ap (map (λ i. first + i)) (ones_those part n (length-between bits first (last + 1) (omega arith)))
    ∙ those_moved (λ k. get_or part k false) first 0 n ∙ ap (λ a. those (λ k. get_or part (k - first) false) a n) begins ∙ same
    ∙ sym (ap (filter (λ k. is_between first last k)) (ones_those bits 65536 size) ∙ filter_those (λ k. get_or bits k false) (λ k. is_between first last k) 0 65536
    ∙ ap (those p 0) (sym whole) ∙ those_joined p 0 first (n + r) ∙ ap (λ l. l ++ those p (0 + first) (n + r)) front ∙ ap (λ a. those p a (n + r)) z
    ∙ those_joined p first n r ∙ ap (λ l. those p first n ++ l) back ∙ append-nil (those p first n))

-- and as many as true items are in the part
pub count_part : (bits : List Bool) (r : Run) → AreBits bits → r.first ≤ r.last → r.last < 65536 → count_by (λ b. b) (slice_range bits r.first (r.last + 1)) ≡ count_where (has (ones_of bits)) (numbers_of_run r)
count_part bits r size ordered most =
    let xs = ones_of bits in
    let up = ascends_ones bits size in
    let part = ones_of (slice_range bits r.first (r.last + 1)) in
    let moved = length-map part (λ i. r.first + i) in
    let same = ap length (part_between bits r.first r.last size ordered most ∙ between_places 0 65536 xs r.first r.last up ordered) in
    let places : length (slice_range xs (count_below xs r.first) (count_below xs (r.last + 1))) ≡ count_below xs (r.last + 1) - count_below xs r.first =
    simp (length-take, length-drop) (let most = counts_at_most xs (r.last + 1) in omega arith) in
    let all = count_run xs r up ordered in
    ones_count (slice_range bits r.first (r.last + 1)) ∙ (omega arith)

-- and are small
pub part_small : (xs : List ℕ) (first last n : ℕ) → All (λ i. i < n) xs → n ≡ last + 1 - first → last < 65536 → Small first xs
part_small xs first last n inside size most k d h = let low = inside k d h in omega arith
