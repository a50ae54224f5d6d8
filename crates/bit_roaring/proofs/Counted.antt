-- Numbers of blocks counted, block by block.
use Rattle.std.proofs.Common.{◌≡◌, ◌≢◌, ℕ, zero, suc, ◌+◌, ◌-◌, ◌*◌, ◌/◌, ◌%◌, ◌^◌, ◌<◌, ◌≤◌, Bool, true, false, cond, List, [], ◌∷◌, ◌++◌, get_or, length, length-append, map, take, drop, refl, sym, ◌∙◌, ap, inl, inr, arith}
use Rattle.std.specs.Prelude.{◌↔◌, None, Option, Some, slice_get}
use Rattle.std.specs.Iterator.{YieldsLast}
use Rattle.std.proofs.lemmas.Bool.{cases_Bool, cases_eq, cases_lt, eq-eqb, ne_eqb}
use Rattle.bit_blocks.specs.Numbers.{Ascends, AscendsIn, count_below, count_where, has}
use Rattle.bit_blocks.proofs.Ascending.{below_append, counts_first, few_numbers, none_below, skips_first}
use Rattle.bit_blocks.proofs.Counting.{count_append, count_most, count_swapped}
use Rattle.bit_blocks.proofs.Subsets.{all_counted, counts_all, counts_none, none_counted}
use Rattle.bit_roaring.specs.Keyed.{AreKeyed, AreKeyedFrom, block_at, keyed_numbers, set_numbers}
use Rattle.bit_roaring.specs.Places.{IsKeyPlace}
use Rattle.bit_blocks.specs.declared.keyed.Keyed.{Keyed}
use Rattle.bit_roaring.proofs.Keys.{ascends_set, has_set, no_block_before}

length_map : (f : ℕ → ℕ) (xs : List ℕ) → length (map f xs) ≡ length xs
length_map f [] = refl
length_map f (x ∷ xs) = ap suc (length_map f xs)

-- what is left from block i on: that block, and those after it
pub from_block : (bs : List Keyed) (i : ℕ) (d : Keyed) → i < length bs → set_numbers (drop i bs) ≡ keyed_numbers (get_or bs i d) ++ set_numbers (drop (i + 1) bs)
from_block bs i d inside = let e : i + 1 ≡ suc i = omega arith in next bs i inside ∙ ap (λ n. keyed_numbers (get_or bs i d) ++ set_numbers (drop n bs)) (sym e)
  where
    next : (l : List Keyed) (n : ℕ) → n < length l → set_numbers (drop n l) ≡ keyed_numbers (get_or l n d) ++ set_numbers (drop (suc n) l)
    next [] n h = absurd (omega arith)
    next (b ∷ l) zero h = refl
    next (b ∷ l) (suc n) h = next l n (omega arith)

pub from_end : (bs : List Keyed) (i : ℕ) → length bs ≤ i → set_numbers (drop i bs) ≡ []
from_end [] zero past = refl
from_end [] (suc i) past = refl
from_end (b ∷ bs) zero past = absurd (omega arith)
from_end (b ∷ bs) (suc i) past = from_end bs i (omega arith)

pub keyed_length : (b : Keyed) → length (keyed_numbers b) ≡ length b.block
keyed_length b = length_map (λ k. b.key * 65536 + k) b.block

pub few_in_set : (bs : List Keyed) → AreKeyed bs → length (set_numbers bs) ≤ 2 ^ 32
few_in_set bs h = let few = few_numbers 0 (2 ^ 32) (set_numbers bs) (omega arith) (ascends_set 0 bs h) in omega arith

-- numbers were counted up to block i
pub record CountedTo (bs : List Keyed) (i count rest whole : ℕ) : Type 0 where
  pub within : i ≤ length bs
  pub sum : count + rest ≡ whole

pub counted_block : (bs : List Keyed) (i : ℕ) (d : Keyed) → i < length bs → length (set_numbers (drop i bs)) ≡ length (get_or bs i d).block + length (set_numbers (drop (i + 1) bs))
counted_block bs i d inside =
    ap length (from_block bs i d inside) ∙ length-append (keyed_numbers (get_or bs i d)) (set_numbers (drop (i + 1) bs)) ∙ ap (λ n. n + length (set_numbers (drop (i + 1) bs))) (keyed_length (get_or bs i d))

-- one more block of a front
pub front_more : (bs : List Keyed) (i : ℕ) (d : Keyed) → i < length bs → length (set_numbers (take (i + 1) bs)) ≡ length (set_numbers (take i bs)) + length (get_or bs i d).block
front_more bs i d inside = let e : i + 1 ≡ suc i = omega arith in ap (λ n. length (set_numbers (take n bs))) e ∙ next bs i inside
  where
    next : (l : List Keyed) (n : ℕ) → n < length l → length (set_numbers (take (suc n) l)) ≡ length (set_numbers (take n l)) + length (get_or l n d).block
    next [] n h = absurd (omega arith)
    next (b ∷ l) zero h = let one = length-append (keyed_numbers b) [] in let size = keyed_length b in omega arith
    next (b ∷ l) (suc n) h =
        let rest = next l n (omega arith) in
        let more = length-append (keyed_numbers b) (set_numbers (take (suc n) l)) in
        let less = length-append (keyed_numbers b) (set_numbers (take n l)) in
        omega arith

pub front_few : (bs : List Keyed) (i : ℕ) → length (set_numbers (take i bs)) ≤ length (set_numbers bs)
front_few [] zero = omega arith
front_few [] (suc i) = omega arith
front_few (b ∷ bs) zero = omega arith
front_few (b ∷ bs) (suc i) =
    let rest = front_few bs i in
    let more = length-append (keyed_numbers b) (set_numbers bs) in
    let less = length-append (keyed_numbers b) (set_numbers (take i bs)) in
    omega arith

-- ---- ranks

-- numbers of one key that are below a number of the same key, of a greater one, and of a smaller one
below_same : (a n : ℕ) (xs : List ℕ) → a ≡ n / 65536 → count_below (map (λ k. a * 65536 + k) xs) n ≡ count_below xs (n % 65536)
below_same a n [] at = refl
below_same a n (x ∷ xs) at = let rest = below_same a n xs at in elim (cases_lt x (n % 65536)) [
  | inl low ↦ counts_first (a * 65536 + x) (map (λ k. a * 65536 + k) xs) n (omega arith) ∙ ap suc rest ∙ sym (counts_first x xs (n % 65536) low)
  | inr high ↦ skips_first (a * 65536 + x) (map (λ k. a * 65536 + k) xs) n (omega arith) ∙ rest ∙ sym (skips_first x xs (n % 65536) high)
]

below_greater : (a from n : ℕ) (xs : List ℕ) → AscendsIn from 65536 xs → a < n / 65536 → count_below (map (λ k. a * 65536 + k) xs) n ≡ length xs
below_greater a from n [] h less = refl
below_greater a from n (x ∷ xs) h less = let small = h.1 in counts_first (a * 65536 + x) (map (λ k. a * 65536 + k) xs) n (omega arith) ∙ ap suc (below_greater a (x + 1) n xs h.2 less)

-- the numbers below one: those of the blocks before its key, and those in its own block
pub rank_parts : (from : ℕ) (bs : List Keyed) (n i : ℕ) → AreKeyedFrom from bs → i ≤ length bs → IsKeyPlace bs (n / 65536) i → count_below (set_numbers bs) n ≡ length (set_numbers (take i bs)) + count_below (block_at bs (n / 65536)) (n % 65536)
rank_parts from [] n zero h within at = refl
rank_parts from [] n (suc i) h within at = refl
rank_parts from (b ∷ bs) n zero h within at =
    let low = at.after 0 b (omega arith) (omega arith) in
    let past = none_below ((b.key + 1) * 65536) (2 ^ 32) (set_numbers bs) n (ascends_set (b.key + 1) bs h.4) (omega arith) in
    let parts = below_append (keyed_numbers b) (set_numbers bs) n in
    elim (cases_eq b.key (n / 65536)) [
      | inl same ↦ (
          let here = below_same b.key n b.block same in
          let block = ap (λ t. count_below (cond t b.block (block_at bs (n / 65536))) (n % 65536)) (eq-eqb b.key (n / 65536) same) in
          omega arith)
      | inr other ↦ (
          let none = none_below (b.key * 65536) (2 ^ 32) (set_numbers (b ∷ bs)) n (ascends_set b.key (b ∷ bs) (omega arith, h.1, h.2, h.3, h.4)) (omega arith) in
          let block = ap (λ t. count_below (cond t b.block (block_at bs (n / 65536))) (n % 65536)) (ne_eqb b.key (n / 65536) other) ∙ ap (λ l. count_below l (n % 65536)) (no_block_before (b.key + 1) bs (n / 65536) h.4 (omega arith)) in
          omega arith)
    ]
rank_parts from (b ∷ bs) n (suc i) h within at =
    let less = at.before 0 b (omega arith) in
    let rest = rank_parts (b.key + 1) bs n i h.4 (omega arith) (record { before = λ j d l. at.before (suc j) d (omega arith); after = λ j d l m. at.after (suc j) d (omega arith) (omega arith) }) in
    let parts = below_append (keyed_numbers b) (set_numbers bs) n in
    let here = below_greater b.key 0 n b.block h.2 less in
    let block = ap (λ t. count_below (cond t b.block (block_at bs (n / 65536))) (n % 65536)) (ne_eqb b.key (n / 65536) (λ e. omega arith)) in
    let size = length-append (keyed_numbers b) (set_numbers (take i bs)) in
    let own = keyed_length b in
    omega arith

-- ---- the k-th number

pub no_item : (a : ℕ) (xs : List ℕ) (k : ℕ) → None ≡ slice_get xs k → None ≡ slice_get (map (λ j. a * 65536 + j) xs) k
no_item a [] zero at = refl
no_item a [] (suc k) at = refl
no_item a (x ∷ xs) zero at = cc
no_item a (x ∷ xs) (suc k) at = no_item a xs k at

pub some_item : (a : ℕ) (xs : List ℕ) (k x : ℕ) → Some x ≡ slice_get xs k → Some (a * 65536 + x) ≡ slice_get (map (λ j. a * 65536 + j) xs) k
some_item a [] zero x at = cc
some_item a [] (suc k) x at = cc
some_item a (y ∷ xs) zero x at = let e : x ≡ y = cc in ap (λ n. Some (a * 65536 + n)) e
some_item a (y ∷ xs) (suc k) x at = some_item a xs k x at

-- an item of two lists, one after the other
item_front : (xs ys : List ℕ) (k : ℕ) → k < length xs → slice_get (xs ++ ys) k ≡ slice_get xs k
item_front [] ys k low = absurd (omega arith)
item_front (x ∷ xs) ys zero low = refl
item_front (x ∷ xs) ys (suc k) low = item_front xs ys k (omega arith)

item_back : (xs ys : List ℕ) (k n : ℕ) → k ≡ length xs + n → slice_get (xs ++ ys) k ≡ slice_get ys n
item_back [] ys k n at = let e : k ≡ n = omega arith in ap (slice_get ys) e
item_back (x ∷ xs) ys zero n at = absurd (omega arith)
item_back (x ∷ xs) ys (suc k) n at = item_back xs ys k n (omega arith)

pub nth_here : (bs : List Keyed) (i k : ℕ) (d : Keyed) → i < length bs → k < length (get_or bs i d).block → slice_get (keyed_numbers (get_or bs i d)) k ≡ slice_get (set_numbers (drop i bs)) k
nth_here bs i k d inside low =
    let size = keyed_length (get_or bs i d) in
    sym (ap (λ l. slice_get l k) (from_block bs i d inside) ∙ item_front (keyed_numbers (get_or bs i d)) (set_numbers (drop (i + 1) bs)) k (omega arith))

pub nth_later : (bs : List Keyed) (i k n : ℕ) (d : Keyed) → i < length bs → k ≡ length (get_or bs i d).block + n → slice_get (set_numbers (drop (i + 1) bs)) n ≡ slice_get (set_numbers (drop i bs)) k
nth_later bs i k n d inside at =
    let size = keyed_length (get_or bs i d) in
    sym (ap (λ l. slice_get l k) (from_block bs i d inside) ∙ item_back (keyed_numbers (get_or bs i d)) (set_numbers (drop (i + 1) bs)) k n (omega arith))

pub nth_end : (bs : List Keyed) (i k : ℕ) → length bs ≤ i → None ≡ slice_get (set_numbers (drop i bs)) k
nth_end bs i k past = sym (ap (λ l. slice_get l k) (from_end bs i past) ∙ empty k)
  where
    empty : (n : ℕ) → slice_get {X = ℕ} [] n ≡ None
    empty zero = refl
    empty (suc n) = refl

-- ---- numbers of a block that are in other blocks too

pub count_keyed : (a from : ℕ) (xs : List ℕ) (bs : List Keyed) → AreKeyed bs → a < 65536 → AscendsIn from 65536 xs → count_where (has (set_numbers bs)) (map (λ k. a * 65536 + k) xs) ≡ count_where (has (block_at bs a)) xs
count_keyed a from [] bs h small up = refl
count_keyed a from (x ∷ xs) bs h small up =
    let below = up.1 in
    let key : (a * 65536 + x) / 65536 ≡ a = omega arith in
    let low : (a * 65536 + x) % 65536 ≡ x = omega arith in
    let here : has (set_numbers bs) (a * 65536 + x) ≡ has (block_at bs a) x = has_set 0 bs (a * 65536 + x) h ∙ ap (λ k. has (block_at bs k) ((a * 65536 + x) % 65536)) key ∙ ap (has (block_at bs a)) low in
    ap (λ t. cond t 1 0 + count_where (has (set_numbers bs)) (map (λ k. a * 65536 + k) xs)) here ∙ ap (λ n. cond (has (block_at bs a) x) 1 0 + n) (count_keyed a (x + 1) xs bs h small up.2)

pub count_absent : (a : ℕ) (xs : List ℕ) (bs : List Keyed) → AreKeyed bs → a < 65536 → Ascends xs → block_at bs a ≡ [] → 0 ≡ count_where (has (set_numbers bs)) (map (λ k. a * 65536 + k) xs)
count_absent a xs bs h small up none = sym (count_keyed a 0 xs bs h small up ∙ ap (λ l. count_where (has l) xs) none ∙ nothing xs)
  where
    nothing : (l : List ℕ) → count_where (has []) l ≡ 0
    nothing [] = refl
    nothing (x ∷ l) = let rest = nothing l in omega arith

pub count_present : (a n : ℕ) (xs ys : List ℕ) (bs : List Keyed) → AreKeyed bs → a < 65536 → Ascends xs → ys ≡ block_at bs a → n ≡ count_where (has ys) xs → n ≡ count_where (has (set_numbers bs)) (map (λ k. a * 65536 + k) xs)
count_present a n xs ys bs h small up is count = count ∙ ap (λ l. count_where (has l) xs) is ∙ sym (count_keyed a 0 xs bs h small up)

pub both_block : (p : ℕ → Bool) (bs : List Keyed) (i : ℕ) (d : Keyed) → i < length bs → count_where p (set_numbers (drop i bs)) ≡ count_where p (keyed_numbers (get_or bs i d)) + count_where p (set_numbers (drop (i + 1) bs))
both_block p bs i d inside = ap (count_where p) (from_block bs i d inside) ∙ count_append p (keyed_numbers (get_or bs i d)) (set_numbers (drop (i + 1) bs))

-- ---- sets without a number, and the last number

pub no_blocks : (bs : List Keyed) → length bs ≡ 0 → set_numbers bs ≡ []
no_blocks [] none = refl
no_blocks (b ∷ bs) none = absurd (omega arith)

pub no_numbers : (bs : List Keyed) → AreKeyed bs → set_numbers bs ≡ [] → length bs ≡ 0
no_numbers [] h none = refl
no_numbers (b ∷ bs) h none = absurd (
    let some = h.3 in
    let size = ap length none in
    let parts = length-append (keyed_numbers b) (set_numbers bs) in
    let own = keyed_length b in
    omega arith)

-- the last of numbers, and none of none
pub last_item : (xs ys : List ℕ) (x : ℕ) → xs ≡ ys ++ x ∷ [] → Some x ≡ slice_get xs (length xs - 1)
last_item xs ys x is =
    let size : length xs ≡ length ys + 1 = ap length is ∙ length-append ys (x ∷ []) in
    let at : length xs - 1 ≡ length ys = omega arith in
    sym (ap (λ n. slice_get xs n) at ∙ ap (λ l. slice_get l (length ys)) is ∙ here ys)
  where
    here : (l : List ℕ) → slice_get (l ++ x ∷ []) (length l) ≡ Some x
    here [] = refl
    here (y ∷ l) = here l

pub no_last : (xs : List ℕ) → xs ≡ [] → None ≡ slice_get xs (length xs - 1)
no_last xs none = sym (ap (λ l. slice_get l (length l - 1)) none)

-- what a step from the back gives
pub last_of_left : {S : Type 0} (rest : S → List ℕ) (s t : S) (xs : List ℕ) (r : Option ℕ) → rest s ≡ xs → YieldsLast rest s r t → r ≡ slice_get xs (length xs - 1)
last_of_left rest s t xs None is step = no_last xs (sym is ∙ step.0)
last_of_left rest s t xs (Some x) is step = last_item xs (rest t) x (sym is ∙ step)

-- ---- numbers that all pass a test, or none

-- the numbers of both sets are as many in the one as in the other
pub both_swapped : (n : ℕ) (bs cs : List Keyed) → AreKeyed bs → AreKeyed cs → n ≡ count_where (has (set_numbers bs)) (set_numbers cs) → n ≡ count_where (has (set_numbers cs)) (set_numbers bs)
both_swapped n bs cs h g count = count ∙ sym (count_swapped (2 ^ 32) (set_numbers bs) (set_numbers cs) (ascends_set 0 bs h) (ascends_set 0 cs g))

-- the numbers of the blocks before i pass
pub record AllPass (p : ℕ → Bool) (bs : List Keyed) (i : ℕ) : Type 0 where
  pub within : i ≤ length bs
  pub sum : count_where p (set_numbers bs) + length (set_numbers (drop i bs)) ≡ count_where p (set_numbers (drop i bs)) + length (set_numbers bs)

-- those of one block more do, or one does not
module _ (p : ℕ → Bool) (bs : List Keyed) (i n : ℕ) (at : Keyed) (r : AllPass p bs i) (inside : i < length bs) (is : at ≡ get_or bs i at) (count : n ≡ count_where p (keyed_numbers at)) where
  here : n ≡ count_where p (keyed_numbers (get_or bs i at))
  here = count ∙ ap (λ b. count_where p (keyed_numbers b)) is

  size : length at.block ≡ length (get_or bs i at).block
  size = ap (λ b. length b.block) is

  pub one_passes : n ≡ length at.block → AllPass p bs (i + 1)
  one_passes all =
      let more = both_block p bs i at inside in
      let longer = counted_block bs i at inside in
      let sum = r.sum in
      record { within = omega arith; sum = omega (arith, here, size) }

  pub one_fails : n ≢ length at.block → ((k : ℕ) → has (set_numbers bs) k ≡ true → p k ≡ true) → ⊥
  one_fails less all =
      let more = both_block p bs i at inside in
      let longer = counted_block bs i at inside in
      let sum = r.sum in
      let whole = counts_all p (set_numbers bs) all in
      let own = count_most p (keyed_numbers at) in
      let long = keyed_length at in
      let rest = count_most p (set_numbers (drop (i + 1) bs)) in
      absurd (omega (arith, here, size, count, less))

pub all_pass : (p : ℕ → Bool) (bs : List Keyed) (i : ℕ) → AllPass p bs i → length bs ≤ i → (k : ℕ) → has (set_numbers bs) k ≡ true → p k ≡ true
all_pass p bs i r past =
    let none = from_end bs i past in
    let zero = ap length none in
    let nothing = ap (count_where p) none in
    all_counted p (set_numbers bs) (omega (arith, r.sum, zero, nothing))

-- none of the numbers of the blocks before i pass
pub record NonePass (p : ℕ → Bool) (bs : List Keyed) (i : ℕ) : Type 0 where
  pub within : i ≤ length bs
  pub sum : count_where p (set_numbers bs) ≡ count_where p (set_numbers (drop i bs))

-- none of one block more does, or one does
module _ (p : ℕ → Bool) (bs : List Keyed) (i n : ℕ) (at : Keyed) (r : NonePass p bs i) (inside : i < length bs) (is : at ≡ get_or bs i at) (count : n ≡ count_where p (keyed_numbers at)) where
  counted : n ≡ count_where p (keyed_numbers (get_or bs i at))
  counted = count ∙ ap (λ b. count_where p (keyed_numbers b)) is

  pub none_passes : n ≡ 0 → NonePass p bs (i + 1)
  none_passes none =
      let more = both_block p bs i at inside in
      let sum = r.sum in
      record { within = omega arith; sum = omega (arith, counted) }

  pub some_passes : n ≢ 0 → ((k : ℕ) → has (set_numbers bs) k ≡ true → p k ≡ false) → ⊥
  some_passes some out =
      let more = both_block p bs i at inside in
      let sum = r.sum in
      let whole = counts_none p (set_numbers bs) out in
      absurd (omega (arith, counted, some))

pub none_pass : (p : ℕ → Bool) (bs : List Keyed) (i : ℕ) → NonePass p bs i → length bs ≤ i → (k : ℕ) → has (set_numbers bs) k ≡ true → p k ≡ false
none_pass p bs i r past = none_counted p (set_numbers bs) (r.sum ∙ ap (count_where p) (from_end bs i past))

-- two lists have no number in common, whichever is looked at
pub apart_swapped : (t : Bool) (xs ys : List ℕ) → (t ≡ true) ↔ ((k : ℕ) → has xs k ≡ true → has ys k ≡ false) → (t ≡ true) ↔ ((k : ℕ) → has ys k ≡ true → has xs k ≡ false)
apart_swapped t xs ys told = (λ e. other xs ys (told.0 e), λ out. told.1 (other ys xs out))
  where
    other : (ms ns : List ℕ) → ((k : ℕ) → has ms k ≡ true → has ns k ≡ false) → (k : ℕ) → has ns k ≡ true → has ms k ≡ false
    other ms ns out k here = elim (cases_Bool (has ms k)) [
      | inl too ↦ absurd (let e : true ≡ false = sym here ∙ out k too in cc)
      | inr none ↦ none
    ]
