-- Numbers below 65536 as the true items of a list.
use Rattle.std.proofs.Common.{◌≡◌, ℕ, zero, suc, ◌+◌, ◌-◌, ◌<◌, ◌≤◌, Bool, true, false, cond, not, ◌&&◌, ◌||◌, leb, nat_eq, nat_lt, List, [], ◌∷◌, ◌++◌, get_or, length, replicate, set, take, refl, sym, ◌∙◌, ap, subst, inl, inr, arith}
use Rattle.std.specs.Prelude.{count_by, slice_get, slice_range, None, Some}
use Rattle.std.specs.List.{filter, range_with_len}
use Rattle.std.proofs.Math.Bool.{or-false, or-true}
use Rattle.std.proofs.lemmas.Bool.{cases_lt, cases_eq, eq-eqb, le-leb, le-ltb, lt-leb, lt-ltb, ne_eqb}
use Rattle.std.proofs.lemmas.List.{ext_get_or, get_or_past, get_or-replicate, length-replicate}
use Rattle.bit_addressing.specs.Row.{put}
use Rattle.bit_slice.specs.Operators.{combined}
use Rattle.bit_slice.specs.Places.{ones_of}
use Rattle.bit_slice.proofs.Places.{places_count, places_count_all, places_whole}
use Rattle.bit_blocks.specs.Bits.{AreBits, BitsCombine, BitsGain, BitsLose}
use Rattle.bit_blocks.specs.Numbers.{Ascends, AscendsIn, Combines, Gains, Loses, count_below, count_where, has, those}
use Rattle.bit_blocks.specs.Operation.{made_by}
use Rattle.bit_blocks.specs.Runs.{AreRuns, is_in_run, is_in_runs, run_numbers}
use Rattle.bit_blocks.specs.declared.operation.Operation.{Operation}
use Rattle.bit_blocks.specs.declared.ranged.Run.{Run}
use Rattle.bit_blocks.proofs.Runs.{has_runs}
use Rattle.bit_addressing.proofs.lists.Put.{length-put as length_put, put_before, put_after, put_inside}
use Rattle.bit_blocks.proofs.Ascending.{at_least, below_all, below_append, counts_first, few_numbers, none_below, same_numbers}
use Rattle.bit_blocks.proofs.Edits.{length_gained, length_lost}
use Rattle.bit_blocks.proofs.Those.{ascends_those, has_those, those_empty, those_joined, those_same}
use Rattle.bit_blocks.proofs.Counting.{count_those}

-- the true items are those that pass the test of an item
pub ones_those : (bits : List Bool) (n : ℕ) → length bits ≡ n → ones_of bits ≡ those (λ k. get_or bits k false) 0 n
unfolding those
ones_those bits n size = ap (λ m. filter (λ k. get_or bits k false) (range_with_len 0 m)) size

pub ascends_ones : (bits : List Bool) → AreBits bits → Ascends (ones_of bits)
ascends_ones bits size = subst Ascends (sym (ones_those bits 65536 size)) (ascends_those (λ k. get_or bits k false) 0 65536 65536 (omega arith))

pub few_ones : (bits : List Bool) → AreBits bits → length (ones_of bits) ≤ 65536
few_ones bits size = let few = few_numbers 0 65536 (ones_of bits) (omega arith) (ascends_ones bits size) in omega arith

pub has_ones : (bits : List Bool) (k : ℕ) → AreBits bits → has (ones_of bits) k ≡ get_or bits k false
has_ones bits k size = ap (λ l. has l k) (ones_those bits 65536 size) ∙ elim (cases_lt k 65536) [
  | inl low ↦ has_those (λ j. get_or bits j false) 0 65536 k (omega arith) (omega arith)
  | inr high ↦ below_all 0 65536 (those (λ j. get_or bits j false) 0 65536) k (ascends_those (λ j. get_or bits j false) 0 65536 65536 (omega arith)) high
      ∙ sym (get_or_past bits k false (omega arith))
]

-- lists of items with the same true ones are the same
pub same_ones : (xs ys : List Bool) → AreBits xs → AreBits ys → ones_of xs ≡ ones_of ys → xs ≡ ys
same_ones xs ys size other same = ext_get_or false xs ys (size ∙ sym other) (λ k inside. sym (has_ones xs k size) ∙ ap (λ l. has l k) same ∙ has_ones ys k other)

-- numbers that are all below k are all counted
all_below : (from upto : ℕ) (xs : List ℕ) (k : ℕ) → AscendsIn from upto xs → upto ≤ k → count_below xs k ≡ length xs
all_below from upto [] k h high = refl
all_below from upto (x ∷ xs) k h high = let low = h.1 in let one = counts_first x xs k (omega arith) in let rest = all_below (x + 1) upto xs k h.2 high in omega arith

-- as many of the first items are true as numbers are found among them
counted : (l : List Bool) (n : ℕ) → n ≤ length l → length (those (λ j. get_or l j false) 0 n) ≡ count_by (λ b. b) (slice_range l 0 n)
unfolding those
counted l n within =
    let e : n ≡ n - 0 = omega arith in
    ap (λ m. length (filter (λ j. get_or l j false) (range_with_len 0 m))) e ∙ places_count (λ b. b) l 0 n (omega arith) within

-- as many items are true as numbers are found
pub ones_count : (bits : List Bool) → count_by (λ b. b) bits ≡ length (ones_of bits)
ones_count bits = sym (sym (ap length (places_whole (λ b. b) bits (length bits) refl)) ∙ places_count_all (λ b. b) bits (length bits) refl)

-- the item at an index, where there is one, and past the end
pub item_there : (bits : List Bool) (k : ℕ) (b : Bool) → slice_get bits k ≡ Some b → b ≡ get_or bits k false
item_there [] zero b at = cc
item_there [] (suc k) b at = cc
item_there (x ∷ bits) zero b at = cc
item_there (x ∷ bits) (suc k) b at = item_there bits k b at

pub item_past : (bits : List Bool) (k : ℕ) → slice_get bits k ≡ None → false ≡ get_or bits k false
item_past [] zero at = refl
item_past [] (suc k) at = refl
item_past (x ∷ bits) zero at = cc
item_past (x ∷ bits) (suc k) at = item_past bits k at

-- no item of a list of false items is true
pub none_true : (bits : List Bool) (n k : ℕ) → bits ≡ replicate n false → get_or bits k false ≡ false
none_true bits n k is = ap (λ l. get_or l k false) is ∙ all_false n k
  where
    all_false : (m j : ℕ) → get_or (replicate m false) j false ≡ false
    all_false zero zero = refl
    all_false zero (suc j) = refl
    all_false (suc m) zero = refl
    all_false (suc m) (suc j) = all_false m j

-- as many numbers are below k as items before it are true
pub ones_below : (bits : List Bool) (k : ℕ) → AreBits bits → k < 65536 → count_by (λ b. b) (slice_range bits 0 k) ≡ count_below (ones_of bits) k
ones_below bits k size low =
    let p = λ (j : ℕ). get_or bits j false in
    let parts : k + (65536 - k) ≡ 65536 = omega arith in
    let z : 0 + k ≡ k = omega arith in
    let here : length (those p 0 k) ≡ count_by (λ b. b) (slice_range bits 0 k) = counted bits k (omega arith) in
    let first = all_below 0 k (those p 0 k) k (ascends_those p 0 k k (omega arith)) (omega arith) in
    let rest = none_below k 65536 (those p k (65536 - k)) k (ascends_those p k (65536 - k) 65536 (omega arith)) (omega arith) in
    sym (ap (λ l. count_below l k) (ones_those bits 65536 size ∙ ap (those p 0) (sym parts) ∙ those_joined p 0 k (65536 - k) ∙ ap (λ a. those p 0 k ++ those p a (65536 - k)) z)
    ∙ below_append (those p 0 k) (those p k (65536 - k)) k ∙ (omega arith))

-- an item of a list that was written at an index
item_set : (xs : List Bool) (i : ℕ) (b : Bool) (k : ℕ) → i < length xs → get_or (set xs i b) k false ≡ cond (nat_eq i k) b (get_or xs k false)
item_set [] i b k inside = absurd (omega arith)
item_set (x ∷ xs) zero b zero inside = sym (ap (λ t. cond t b x) (eq-eqb 0 0 refl))
item_set (x ∷ xs) zero b (suc k) inside = sym (ap (λ t. cond t b (get_or xs k false)) (ne_eqb 0 (suc k) (λ e. omega arith)))
item_set (x ∷ xs) (suc i) b zero inside = sym (ap (λ t. cond t b x) (ne_eqb (suc i) 0 (λ e. omega arith)))
item_set (x ∷ xs) (suc i) b (suc k) inside = item_set xs i b k (omega arith) ∙ sym (ap (λ t. cond t b (get_or xs k false)) (same i k))
  where
    same : (m n : ℕ) → nat_eq (suc m) (suc n) ≡ nat_eq m n
    same m n = elim (cases_eq m n) [ inl e ↦ eq-eqb (suc m) (suc n) (ap suc e) ∙ sym (eq-eqb m n e) | inr d ↦ ne_eqb (suc m) (suc n) (λ e. d (omega arith)) ∙ sym (ne_eqb m n d) ]

pub when_true : (t b : Bool) → cond t true b ≡ (t || b)
when_true true b = refl
when_true false b = refl

pub when_false : (t b : Bool) → cond t false b ≡ (b && not t)
when_false true true = refl
when_false true false = refl
when_false false true = refl
when_false false false = refl

pub bits_gain : (xs : List Bool) (i : ℕ) → AreBits xs → i < 65536 → BitsGain xs (set xs i true) i
bits_gain xs i size low k = item_set xs i true k (omega arith) ∙ when_true (nat_eq i k) (get_or xs k false)

pub bits_lose : (xs : List Bool) (i : ℕ) → AreBits xs → i < 65536 → BitsLose xs (set xs i false) i
bits_lose xs i size low k = item_set xs i false k (omega arith) ∙ when_false (nat_eq i k) (get_or xs k false)

-- an item of two lists combined
item_combined : (f : Bool → Bool → Bool) (xs ys : List Bool) (k : ℕ) → length xs ≡ length ys → f false false ≡ false → get_or (combined f xs ys) k false ≡ f (get_or xs k false) (get_or ys k false)
item_combined f [] [] k same none = empty k ∙ sym (ap (λ b. f b (get_or {A = Bool} [] k false)) (empty k) ∙ ap (f false) (empty k) ∙ none)
  where
    empty : (n : ℕ) → get_or {A = Bool} [] n false ≡ false
    empty zero = refl
    empty (suc n) = refl
item_combined f [] (y ∷ ys) k same none = absurd (omega arith)
item_combined f (x ∷ xs) [] k same none = absurd (omega arith)
item_combined f (x ∷ xs) (y ∷ ys) zero same none = refl
item_combined f (x ∷ xs) (y ∷ ys) (suc k) same none = item_combined f xs ys k (omega arith) none

pub length_combined : (f : Bool → Bool → Bool) (xs ys : List Bool) → length (combined f xs ys) ≡ length xs
length_combined f [] ys = refl
length_combined f (x ∷ xs) [] = ap suc (length_combined f xs [])
length_combined f (x ∷ xs) (y ∷ ys) = ap suc (length_combined f xs ys)

pub bits_made : (f : Bool → Bool → Bool) (xs ys zs : List Bool) → AreBits xs → AreBits ys → f false false ≡ false → zs ≡ combined f xs ys → BitsCombine f xs (λ k. get_or ys k false) zs
bits_made f xs ys zs left right none is k = ap (λ l. get_or l k false) is ∙ item_combined f xs ys k (omega arith) none

-- as many items are true in both as numbers are in both
pub ones_both : (xs ys : List Bool) → AreBits xs → AreBits ys → count_by (λ b. b) (combined (λ x y. x && y) xs ys) ≡ count_where (has (ones_of ys)) (ones_of xs)
ones_both xs ys left right =
    let made = combined (λ x y. x && y) xs ys in
    let size : length made ≡ 65536 = length_combined (λ x y. x && y) xs ys ∙ left in
    ones_count made ∙ ap length (ones_those made 65536 size)
    ∙ ap length (those_same (λ k. get_or made k false) (λ k. get_or xs k false && has (ones_of ys) k) 0 65536 (λ k low high.
    item_combined (λ x y. x && y) xs ys k (omega arith) refl ∙ ap (λ b. get_or xs k false && b) (sym (has_ones ys k right))))
    ∙ sym (count_those (λ k. get_or xs k false) (has (ones_of ys)) 0 65536) ∙ ap (count_where (has (ones_of ys))) (sym (ones_those xs 65536 left))

-- ---- numbers put in, taken out or flipped one after another

or_back : (a b c : Bool) → (a || (b || c)) ≡ (b || (c || a))
or_back true true c = refl
or_back true false true = refl
or_back true false false = refl
or_back false true c = refl
or_back false false true = refl
or_back false false false = refl

or_last : (a b : Bool) → (a || b) ≡ (b || a)
or_last true true = refl
or_last true false = refl
or_last false true = refl
or_last false false = refl

or_group : (a b c : Bool) → (a || (b || c)) ≡ ((a || b) || c)
or_group true b c = refl
or_group false b c = refl

-- one more number of a list that is read
pub has_taken : (xs : List ℕ) (i k : ℕ) → i < length xs → has (take (i + 1) xs) k ≡ (has (take i xs) k || nat_eq (get_or xs i 0) k)
has_taken xs i k inside = let e : i + 1 ≡ suc i = omega arith in ap (λ n. has (take n xs) k) e ∙ next xs i inside
  where
    next : (l : List ℕ) (n : ℕ) → n < length l → has (take (suc n) l) k ≡ (has (take n l) k || nat_eq (get_or l n 0) k)
    next [] n h = absurd (omega arith)
    next (x ∷ l) zero h = or_last (nat_eq x k) false
    next (x ∷ l) (suc n) h = ap (λ b. nat_eq x k || b) (next l n (omega arith)) ∙ or_group (nat_eq x k) (has (take n l) k) (nat_eq (get_or l n 0) k)

-- a number that is read next is not among those that were read
pub next_new : (from upto : ℕ) (xs : List ℕ) (i : ℕ) → AscendsIn from upto xs → i < length xs → has (take i xs) (get_or xs i 0) ≡ false
next_new from upto [] i h inside = absurd (omega arith)
next_new from upto (x ∷ xs) zero h inside = refl
next_new from upto (x ∷ xs) (suc i) h inside =
    let past = at_least (x + 1) upto xs i 0 h.2 (omega arith) in
    ap (λ b. b || has (take i xs) (get_or xs i 0)) (ne_eqb x (get_or xs i 0) (λ e. omega arith)) ∙ next_new (x + 1) upto xs i h.2 (omega arith)

-- the first i numbers of a list were put in, taken out or flipped, as an operation says
pub record AreChanged (op : Operation) (old new : List Bool) (xs : List ℕ) (i : ℕ) : Type 0 where
  pub size : AreBits new
  pub members : (k : ℕ) → get_or new k false ≡ made_by op (get_or old k false) (has (take i xs) k)

pub none_changed : (op : Operation) (bits : List Bool) (xs : List ℕ) → ((b : Bool) → made_by op b false ≡ b) → AreBits bits → AreChanged op bits bits xs 0
none_changed op bits xs keeps size = record { size = size; members = λ k. sym (ap (made_by op (get_or bits k false)) (none xs k) ∙ keeps (get_or bits k false)) }
  where
    none : (l : List ℕ) (k : ℕ) → has (take 0 l) k ≡ false
    none [] k = refl
    none (x ∷ l) k = refl

length_set : (l : List Bool) (i : ℕ) (b : Bool) → length (set l i b) ≡ length l
length_set [] zero b = refl
length_set [] (suc i) b = refl
length_set (x ∷ l) zero b = refl
length_set (x ∷ l) (suc i) b = ap suc (length_set l i b)

-- a number that is written as it was
as_it_was : (xs : List ℕ) (n k : ℕ) (b : Bool) → has xs n ≡ b → cond (nat_eq n k) b (has xs k) ≡ has xs k
as_it_was xs n k b there = elim (cases_eq n k) [
  | inl same ↦ ap (λ t. cond t b (has xs k)) (eq-eqb n k same) ∙ sym there ∙ ap (has xs) same
  | inr other ↦ ap (λ t. cond t b (has xs k)) (ne_eqb n k other)
]

-- how many numbers a list has after one was put in, taken out or left
length_written : (xs ys : List ℕ) (n : ℕ) (was is : Bool) → Ascends xs → Ascends ys → n < 65536 → has xs n ≡ was → ((k : ℕ) → has ys k ≡ cond (nat_eq n k) is (has xs k))
    → length ys + cond {A = ℕ} was 1 0 ≡ length xs + cond {A = ℕ} is 1 0
length_written xs ys n true true h g low at made = ap (λ l. length l + 1) (same_numbers 0 65536 ys xs g h (λ k. made k ∙ as_it_was xs n k true at))
length_written xs ys n false false h g low at made = ap (λ l. length l + 0) (same_numbers 0 65536 ys xs g h (λ k. made k ∙ as_it_was xs n k false at))
length_written xs ys n false true h g low at made = let e = length_gained xs ys n h g low at (λ k. made k ∙ when_true (nat_eq n k) (has xs k)) in omega arith
length_written xs ys n true false h g low at made = let e = length_lost xs ys n h g at (λ k. made k ∙ when_false (nat_eq n k) (has xs k)) in omega arith

-- how many items are true after one was written
pub count_set : (bits : List Bool) (n : ℕ) (was is : Bool) → AreBits bits → n < 65536 → was ≡ has (ones_of bits) n → length (ones_of (set bits n is)) + cond {A = ℕ} was 1 0 ≡ length (ones_of bits) + cond {A = ℕ} is 1 0
count_set bits n was is size low at =
    let kept : AreBits (set bits n is) = length_set bits n is ∙ size in
    length_written (ones_of bits) (ones_of (set bits n is)) n was is (ascends_ones bits size) (ascends_ones (set bits n is) kept) low (sym at)
    (λ k. has_ones (set bits n is) k kept ∙ item_set bits n is k (omega arith) ∙ ap (cond (nat_eq n k) is) (sym (has_ones bits k size)))

pub one_changed : (op : Operation) (old bits new : List Bool) (xs : List ℕ) (i n : ℕ) (bit : Bool) → ((b : Bool) → made_by op b false ≡ b) → Ascends xs → i < length xs → get_or xs i 0 ≡ n → n < 65536
    → AreChanged op old bits xs i → bit ≡ made_by op (has (ones_of bits) n) true → new ≡ set bits n bit → AreChanged op old new xs (i + 1)
one_changed op old bits new xs i n bit keeps h inside at low r new_bit is =
    let size = r.size in
    record {
      size = ap length is ∙ length_set bits n bit ∙ size;
      members = λ k.
          let taken = has_taken xs i k inside ∙ ap (λ m. has (take i xs) k || nat_eq m k) at in
          ap (λ l. get_or l k false) is ∙ item_set bits n bit k (omega arith) ∙ elim (cases_eq n k) [
            | inl same ↦ (
                let out : has (take i xs) k ≡ false = ap (has (take i xs)) (sym (at ∙ same)) ∙ next_new 0 65536 xs i h inside in
                let was : has (ones_of bits) n ≡ get_or old k false = has_ones bits n size ∙ ap (λ m. get_or bits m false) same ∙ r.members k ∙ ap (made_by op (get_or old k false)) out ∙ keeps (get_or old k false) in
                let there : has (take (i + 1) xs) k ≡ true = taken ∙ ap (λ b. has (take i xs) k || b) (eq-eqb n k same) ∙ or-true (has (take i xs) k) in
                ap (λ b. cond b bit (get_or bits k false)) (eq-eqb n k same) ∙ new_bit ∙ ap (λ b. made_by op b true) was ∙ sym (ap (made_by op (get_or old k false)) there))
            | inr other ↦ (
                let same : has (take (i + 1) xs) k ≡ has (take i xs) k = taken ∙ ap (λ b. has (take i xs) k || b) (ne_eqb n k other) ∙ or-false (has (take i xs) k) in
                ap (λ b. cond b bit (get_or bits k false)) (ne_eqb n k other) ∙ r.members k ∙ sym (ap (made_by op (get_or old k false)) same))
          ];
    }

pub take_all : (xs : List ℕ) (i : ℕ) → length xs ≤ i → take i xs ≡ xs
take_all [] zero past = refl
take_all [] (suc i) past = refl
take_all (x ∷ xs) zero past = absurd (omega arith)
take_all (x ∷ xs) (suc i) past = ap (λ l. x ∷ l) (take_all xs i (omega arith))

pub all_changed : (op : Operation) (old new : List Bool) (xs : List ℕ) (i : ℕ) → length xs ≤ i → AreChanged op old new xs i → BitsCombine (made_by op) old (has xs) new
all_changed op old new xs i past r k = r.members k ∙ ap (λ l. made_by op (get_or old k false) (has l k)) (take_all xs i past)

-- ---- runs put in one after another

-- an item of a list in which a range was written
pub item_filled : (xs : List Bool) (a n k : ℕ) (bit : Bool) → a + n ≤ length xs → get_or (put xs a (replicate n bit)) k false ≡ cond (leb a k && nat_lt k (a + n)) bit (get_or xs k false)
item_filled xs a n k bit within = let size = length-replicate n bit in elim (cases_lt k a) [
  | inl low ↦ put_before xs (replicate n bit) a k false (omega arith) low ∙ sym (ap (λ b. cond (b && nat_lt k (a + n)) bit (get_or xs k false)) (lt-leb a k low))
  | inr high ↦ elim (cases_lt k (a + n)) [
    | inl inside ↦ put_inside xs (replicate n bit) a k false (omega arith) high (omega arith) ∙ get_or-replicate n (k - a) bit false (omega arith)
        ∙ sym (ap (λ b. cond (b && nat_lt k (a + n)) bit (get_or xs k false)) (le-leb a k high) ∙ ap (λ b. cond b bit (get_or xs k false)) (lt-ltb k (a + n) inside))
    | inr past ↦ put_after xs (replicate n bit) a k false (omega arith) (omega arith)
        ∙ sym (ap (λ b. cond (b && nat_lt k (a + n)) bit (get_or xs k false)) (le-leb a k high) ∙ ap (λ b. cond b bit (get_or xs k false)) (le-ltb k (a + n) past))
  ]
]

in_taken : (rs : List Run) (i k : ℕ) (d : Run) → i < length rs → is_in_runs (take (i + 1) rs) k ≡ (is_in_runs (take i rs) k || is_in_run (get_or rs i d) k)
in_taken rs i k d inside = let e : i + 1 ≡ suc i = omega arith in ap (λ n. is_in_runs (take n rs) k) e ∙ next rs i inside
  where
    next : (l : List Run) (n : ℕ) → n < length l → is_in_runs (take (suc n) l) k ≡ (is_in_runs (take n l) k || is_in_run (get_or l n d) k)
    next [] n h = absurd (omega arith)
    next (r ∷ l) zero h = or_last (is_in_run r k) false
    next (r ∷ l) (suc n) h = ap (λ b. is_in_run r k || b) (next l n (omega arith)) ∙ or_group (is_in_run r k) (is_in_runs (take n l) k) (is_in_run (get_or l n d) k)

-- the first i runs were put in
pub record RunsAreIn (old new : List Bool) (rs : List Run) (i : ℕ) : Type 0 where
  pub size : AreBits new
  pub members : (k : ℕ) → get_or new k false ≡ (get_or old k false || is_in_runs (take i rs) k)

-- whether a number is in a run, by the end of its range
pub in_range : (r : Run) (k a n : ℕ) → a ≡ r.first → a + n ≡ r.last + 1 → (leb a k && nat_lt k (a + n)) ≡ is_in_run r k
in_range r k a n first end = ap (λ m. leb m k && nat_lt k (a + n)) first ∙ ap (λ b. leb r.first k && b) (elim (cases_lt r.last k) [
  | inl past ↦ le-ltb k (a + n) (omega arith) ∙ sym (lt-leb k r.last past)
  | inr within ↦ lt-ltb k (a + n) (omega arith) ∙ sym (le-leb k r.last within)
])

pub one_run_in : (old bits new : List Bool) (rs : List Run) (i a n : ℕ) (d : Run) → i < length rs → a ≡ (get_or rs i d).first → a + n ≡ (get_or rs i d).last + 1 → (get_or rs i d).last < 65536
    → RunsAreIn old bits rs i → new ≡ put bits a (replicate n true) → RunsAreIn old new rs (i + 1)
one_run_in old bits new rs i a n d inside first end most r is =
    let size = length-replicate n true in
    let before = r.size in
    let run = get_or rs i d in
    record {
      size = ap length is ∙ length_put bits (replicate n true) a (omega arith) ∙ r.size;
      members = λ k.
          ap (λ l. get_or l k false) is ∙ item_filled bits a n k true (omega arith) ∙ when_true (leb a k && nat_lt k (a + n)) (get_or bits k false)
          ∙ ap (λ b. b || get_or bits k false) (in_range run k a n first end)
          ∙ ap (λ b. is_in_run run k || b) (r.members k)
          ∙ or_back (is_in_run run k) (get_or old k false) (is_in_runs (take i rs) k)
          ∙ sym (ap (λ b. get_or old k false || b) (in_taken rs i k d inside));
    }

runs_all : (rs : List Run) (i : ℕ) → length rs ≤ i → take i rs ≡ rs
runs_all [] zero past = refl
runs_all [] (suc i) past = refl
runs_all (x ∷ rs) zero past = absurd (omega arith)
runs_all (x ∷ rs) (suc i) past = ap (λ l. x ∷ l) (runs_all rs i (omega arith))

pub all_runs_in : (old new : List Bool) (rs : List Run) (i : ℕ) → AreRuns rs → length rs ≤ i → RunsAreIn old new rs i → BitsCombine (λ x y. x || y) old (has (run_numbers rs)) new
all_runs_in old new rs i h past r k = r.members k ∙ ap (λ l. get_or old k false || is_in_runs l k) (runs_all rs i past) ∙ ap (λ b. get_or old k false || b) (sym (has_runs 0 rs k h))

-- ---- the same of the numbers of the true items

pub there_in : (bits : List Bool) (k : ℕ) (b : Bool) → AreBits bits → slice_get bits k ≡ Some b → b ≡ has (ones_of bits) k
there_in bits k b size at = item_there bits k b at ∙ sym (has_ones bits k size)

pub past_in : (bits : List Bool) (k : ℕ) → AreBits bits → slice_get bits k ≡ None → false ≡ has (ones_of bits) k
past_in bits k size at = item_past bits k at ∙ sym (has_ones bits k size)

pub none_ones : (bits : List Bool) → bits ≡ replicate 65536 false → length bits ≡ 65536 → ones_of bits ≡ []
none_ones bits is size = ones_those bits 65536 size ∙ those_empty (λ k. get_or bits k false) 0 65536 (λ k low high. none_true bits 65536 k is)

pub ones_gain : (xs ys : List Bool) (n : ℕ) → AreBits xs → n < 65536 → ys ≡ set xs n true → length ys ≡ 65536 → Gains (ones_of xs) (ones_of ys) n
ones_gain xs ys n size low is size_too k =
    has_ones ys k size_too ∙ ap (λ l. get_or l k false) is ∙ bits_gain xs n size low k ∙ ap (λ b. nat_eq n k || b) (sym (has_ones xs k size))

pub ones_lose : (xs ys : List Bool) (n : ℕ) → AreBits xs → n < 65536 → ys ≡ set xs n false → length ys ≡ 65536 → Loses (ones_of xs) (ones_of ys) n
ones_lose xs ys n size low is size_too k =
    has_ones ys k size_too ∙ ap (λ l. get_or l k false) is ∙ bits_lose xs n size low k ∙ ap (λ b. b && not (nat_eq n k)) (sym (has_ones xs k size))

pub ones_combine : (f : Bool → Bool → Bool) (xs : List Bool) (ys : List ℕ) (zs : List Bool) → AreBits xs → AreBits zs → BitsCombine f xs (has ys) zs → Combines f (ones_of xs) ys (ones_of zs)
ones_combine f xs ys zs size size_too made k = has_ones zs k size_too ∙ made k ∙ ap (λ b. f b (has ys k)) (sym (has_ones xs k size))

pub ones_made : (f : Bool → Bool → Bool) (xs ys zs : List Bool) → AreBits xs → AreBits ys → f false false ≡ false → zs ≡ combined f xs ys → Combines f (ones_of xs) (ones_of ys) (ones_of zs)
ones_made f xs ys zs left right none is k =
    has_ones zs k (ap length is ∙ length_combined f xs ys ∙ left) ∙ bits_made f xs ys zs left right none is k
    ∙ ap (λ b. f b (get_or ys k false)) (sym (has_ones xs k left)) ∙ ap (f (has (ones_of xs) k)) (sym (has_ones ys k right))

-- numbers that were put into no others
pub ones_put : (xs zs : List Bool) (ys : List ℕ) → ones_of xs ≡ [] → AreBits zs → Ascends ys → Combines (λ x y. x || y) (ones_of xs) ys (ones_of zs) → ones_of zs ≡ ys
ones_put xs zs ys none size up made = same_numbers 0 65536 (ones_of zs) ys (ascends_ones zs size) up (λ k. made k ∙ ap (λ l. has l k || has ys k) none)

-- a list of the numbers of bits ascends
pub ascends_listed : (xs : List ℕ) (ys : List Bool) → AreBits ys → xs ≡ ones_of ys → Ascends xs
ascends_listed xs ys size is = subst Ascends (sym is) (ascends_ones ys size)
