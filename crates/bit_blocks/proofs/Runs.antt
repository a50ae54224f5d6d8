-- Runs, and the numbers in them.
use Rattle.std.proofs.Common.{append-nil, subst, ◌≡◌, ℕ, zero, suc, ◌+◌, ◌-◌, ◌*◌, ◌<◌, ◌≤◌, false, ◌&&◌, ◌||◌, leb, nat_lt, List, [], ◌∷◌, ◌++◌, get_or, length, length-append, min, drop, refl, sym, ◌∙◌, ap, inl, inr, arith}
use Rattle.std.specs.Prelude.{All, None, Some, slice_get}
use Rattle.std.specs.List.{range_with_len}
use Rattle.std.specs.List.Sorted.{IsNonDecreasingBy}
use Rattle.std.proofs.Math.Bool.{and-false, or-false}
use Rattle.std.proofs.lemmas.Bool.{cases_lt, cases_eq, eq-eqb, le-leb, le-ltb, lt-leb, lt-ltb, ne_eqb}
use Rattle.std.proofs.lemmas.List.FromFn.{length-range_with_len}
use Rattle.bit_blocks.specs.Numbers.{AscendsIn, Ascends, count_below, has}
use Rattle.bit_blocks.specs.RunPlaces.{IsBegunBefore}
use Rattle.bit_blocks.specs.Runs.{AreRuns, AreRunsFrom, is_in_run, is_in_runs, numbers_of_run, run_numbers}
use Rattle.bit_blocks.specs.declared.ranged.Run.{Run}
use Rattle.bit_blocks.proofs.Ascending.{ascends_earlier, below_append, counts_first, few_numbers, none_below, skips_first}
use Rattle.bit_blocks.proofs.Edits.{has_append}

-- whether a number is in a range
pub has_range : (a n k : ℕ) → has (range_with_len a n) k ≡ (leb a k && nat_lt k (a + n))
has_range a zero k = elim (cases_lt k a) [
  | inl low ↦ sym (ap (λ b. b && nat_lt k (a + 0)) (lt-leb a k low))
  | inr high ↦ sym (ap (λ b. leb a k && b) (le-ltb k (a + 0) (omega arith)) ∙ and-false (leb a k))
]
has_range a (suc n) k = elim (cases_eq a k) [
  | inl same ↦ ap (λ b. b || has (range_with_len (a + 1) n) k) (eq-eqb a k same) ∙ sym (ap (λ b. b && nat_lt k (a + suc n)) (le-leb a k (omega arith)) ∙ lt-ltb k (a + suc n) (omega arith))
  | inr other ↦ ap (λ b. b || has (range_with_len (a + 1) n) k) (ne_eqb a k other) ∙ has_range (a + 1) n k ∙ elim (cases_lt k a) [
    | inl low ↦ ap (λ b. b && nat_lt k (a + 1 + n)) (lt-leb (a + 1) k (omega arith)) ∙ sym (ap (λ b. b && nat_lt k (a + suc n)) (lt-leb a k low))
    | inr high ↦ (
        let e : a + 1 + n ≡ a + suc n = omega arith in
        ap (λ b. b && nat_lt k (a + 1 + n)) (le-leb (a + 1) k (omega arith)) ∙ ap (nat_lt k) e ∙ sym (ap (λ b. b && nat_lt k (a + suc n)) (le-leb a k high)))
  ]
]

-- whether a number is in a run
pub has_run : (r : Run) (k : ℕ) → r.first ≤ r.last → has (numbers_of_run r) k ≡ is_in_run r k
has_run r k ordered =
    let e : r.first + (r.last + 1 - r.first) ≡ suc r.last = omega arith in
    has_range r.first (r.last + 1 - r.first) k ∙ ap (λ n. leb r.first k && nat_lt k n) e ∙ ap (λ b. leb r.first k && b) (upto k r.last)
  where
    upto : (m n : ℕ) → nat_lt m (suc n) ≡ leb m n
    upto m n = elim (cases_lt n m) [ inl past ↦ le-ltb m (suc n) (omega arith) ∙ sym (lt-leb m n past) | inr within ↦ lt-ltb m (suc n) (omega arith) ∙ sym (le-leb m n within) ]

-- whether a number is in one of the runs
pub has_runs : (from : ℕ) (rs : List Run) (k : ℕ) → AreRunsFrom from rs → has (run_numbers rs) k ≡ is_in_runs rs k
has_runs from [] k h = refl
has_runs from (r ∷ rs) k h =
    has_append (numbers_of_run r) (run_numbers rs) k ∙ ap (λ b. b || has (run_numbers rs) k) (has_run r k h.1) ∙ ap (λ b. is_in_run r k || b) (has_runs (r.last + 2) rs k h.3)

-- numbers that ascend after a range
pub ascends_range : (a n upto : ℕ) (ys : List ℕ) → a + n ≤ upto → AscendsIn (a + n) upto ys → AscendsIn a upto (range_with_len a n ++ ys)
ascends_range a zero upto ys within h = ascends_earlier (a + 0) a upto ys (omega arith) h
ascends_range a (suc n) upto ys within h = (omega arith, omega arith, ascends_range (a + 1) n upto ys (omega arith) (ascends_earlier (a + suc n) (a + 1 + n) upto ys (omega arith) h))

-- the numbers of runs ascend
pub ascends_runs : (from : ℕ) (rs : List Run) → AreRunsFrom from rs → AscendsIn from 65536 (run_numbers rs)
ascends_runs from [] h = tt
ascends_runs from (r ∷ rs) h =
    let low = h.0 in
    let ordered = h.1 in
    let most = h.2 in
    ascends_earlier r.first from 65536 (run_numbers (r ∷ rs)) low
    (ascends_range r.first (r.last + 1 - r.first) 65536 (run_numbers rs) (omega arith)
    (ascends_earlier (r.last + 2) (r.first + (r.last + 1 - r.first)) 65536 (run_numbers rs) (omega arith) (ascends_runs (r.last + 2) rs h.3)))

-- runs that begin later
pub runs_later : (from least : ℕ) (rs : List Run) → least ≤ from → AreRunsFrom from rs → AreRunsFrom least rs
runs_later from least [] low h = tt
runs_later from least (r ∷ rs) low h = let first = h.0 in (omega arith, h.1, h.2, h.3)

-- each run begins where the first one may, or later
pub first_at_least : (from : ℕ) (rs : List Run) (i : ℕ) (d : Run) → AreRunsFrom from rs → i < length rs → from ≤ (get_or rs i d).first
first_at_least from [] i d h inside = absurd (omega arith)
first_at_least from (r ∷ rs) zero d h inside = h.0
first_at_least from (r ∷ rs) (suc i) d h inside = let low = h.0 in let ordered = h.1 in let rest = first_at_least (r.last + 2) rs i d h.3 (omega arith) in omega arith

-- runs begin one after another
pub firsts_ascend : (from : ℕ) (rs : List Run) → AreRunsFrom from rs → IsNonDecreasingBy (λ r. r.first) rs
firsts_ascend from [] h i j d before inside = absurd (omega arith)
firsts_ascend from (r ∷ rs) h zero zero d before inside = omega arith
firsts_ascend from (r ∷ rs) h zero (suc j) d before inside = let ordered = h.1 in let rest = first_at_least (r.last + 2) rs j d h.3 (omega arith) in omega arith
firsts_ascend from (r ∷ rs) h (suc i) zero d before inside = absurd (omega arith)
firsts_ascend from (r ∷ rs) h (suc i) (suc j) d before inside = firsts_ascend (r.last + 2) rs h.3 i j d (omega arith) (omega arith)

-- a run does not end before it begins, nor past 65535
pub run_ordered : (from : ℕ) (rs : List Run) (i : ℕ) (d : Run) → AreRunsFrom from rs → i < length rs → ((get_or rs i d).first ≤ (get_or rs i d).last) × ((get_or rs i d).last < 65536)
run_ordered from [] i d h inside = absurd (omega arith)
run_ordered from (r ∷ rs) zero d h inside = (h.1, h.2)
run_ordered from (r ∷ rs) (suc i) d h inside = run_ordered (r.last + 2) rs i d h.3 (omega arith)

-- runs end one after another
pub lasts_ascend : (from : ℕ) (rs : List Run) → AreRunsFrom from rs → IsNonDecreasingBy (λ r. r.last) rs
lasts_ascend from [] h i j d before inside = absurd (omega arith)
lasts_ascend from (r ∷ rs) h zero zero d before inside = omega arith
lasts_ascend from (r ∷ rs) h zero (suc j) d before inside =
    let low = first_at_least (r.last + 2) rs j d h.3 (omega arith) in
    let ordered = (run_ordered (r.last + 2) rs j d h.3 (omega arith)).0 in
    omega arith
lasts_ascend from (r ∷ rs) h (suc i) zero d before inside = absurd (omega arith)
lasts_ascend from (r ∷ rs) h (suc i) (suc j) d before inside = lasts_ascend (r.last + 2) rs h.3 i j d (omega arith) (omega arith)

-- a number before all runs is in none
in_none : (from : ℕ) (rs : List Run) (k : ℕ) → AreRunsFrom from rs → k < from → is_in_runs rs k ≡ false
in_none from [] k h low = refl
in_none from (r ∷ rs) k h low =
    let first = h.0 in
    let ordered = h.1 in
    ap (λ b. (b && leb k r.last) || is_in_runs rs k) (lt-leb r.first k (omega arith)) ∙ in_none (r.last + 2) rs k h.3 (omega arith)

-- runs that all begin after a number do not have it
after_number : (from : ℕ) (rs : List Run) (k : ℕ) → AreRunsFrom from rs → ((j : ℕ) (d : Run) → j < length rs → k < (get_or rs j d).first) → is_in_runs rs k ≡ false
after_number from [] k h after = refl
after_number from (r ∷ rs) k h after =
    let first = after 0 r (omega arith) in
    let ordered = h.1 in
    ap (λ b. (b && leb k r.last) || is_in_runs rs k) (lt-leb r.first k (omega arith)) ∙ after_number (r.last + 2) rs k h.3 (λ j d l. after (suc j) d (omega arith))

-- only the last run that begins at a number or before it can have it
in_last : (from : ℕ) (rs : List Run) (k i : ℕ) (d : Run) → AreRunsFrom from rs → i < length rs → IsBegunBefore rs k (suc i) → is_in_runs rs k ≡ leb k (get_or rs i d).last
in_last from [] k i d h inside at = absurd (omega arith)
in_last from (r ∷ rs) k zero d h inside at =
    let first = at.before 0 r (omega arith) in
    ap (λ b. (b && leb k r.last) || is_in_runs rs k) (le-leb r.first k first)
    ∙ ap (λ b. leb k r.last || b) (after_number (r.last + 2) rs k h.3 (λ j e l. at.after (suc j) e (omega arith) (omega arith))) ∙ or-false (leb k r.last)
in_last from (r ∷ rs) k (suc i) d h inside at =
    let next = at.before 1 r (omega arith) in
    let low = first_at_least (r.last + 2) rs 0 r h.3 (omega arith) in
    ap (λ b. (leb r.first k && b) || is_in_runs rs k) (lt-leb k r.last (omega arith)) ∙ ap (λ b. b || is_in_runs rs k) (and-false (leb r.first k))
    ∙ in_last (r.last + 2) rs k i d h.3 (omega arith) (record { before = λ j e l. at.before (suc j) e (omega arith); after = λ j e l m. at.after (suc j) e (omega arith) (omega arith) })

pub found_in_last : (rs : List Run) (k i : ℕ) (d : Run) → AreRuns rs → suc i ≤ length rs → IsBegunBefore rs k (suc i) → leb k (get_or rs i d).last ≡ has (run_numbers rs) k
found_in_last rs k i d h inside at = sym (has_runs 0 rs k h ∙ in_last 0 rs k i d h (omega arith) at)

pub found_in_none : (rs : List Run) (k : ℕ) → AreRuns rs → IsBegunBefore rs k 0 → false ≡ has (run_numbers rs) k
found_in_none rs k h at = sym (has_runs 0 rs k h ∙ after_number 0 rs k h (λ j d l. at.after j d (omega arith) l))

-- ---- runs that are gone through, one after another

-- what is left from run i on: that run, and those after it
pub from_run : (rs : List Run) (i : ℕ) (d : Run) → i < length rs → run_numbers (drop i rs) ≡ numbers_of_run (get_or rs i d) ++ run_numbers (drop (i + 1) rs)
from_run rs i d inside = let e : i + 1 ≡ suc i = omega arith in next rs i inside ∙ ap (λ n. numbers_of_run (get_or rs i d) ++ run_numbers (drop n rs)) (sym e)
  where
    next : (l : List Run) (n : ℕ) → n < length l → run_numbers (drop n l) ≡ numbers_of_run (get_or l n d) ++ run_numbers (drop (suc n) l)
    next [] n h = absurd (omega arith)
    next (r ∷ l) zero h = refl
    next (r ∷ l) (suc n) h = next l n (omega arith)

-- nothing is left past the last run
pub from_end : (rs : List Run) (i : ℕ) → length rs ≤ i → run_numbers (drop i rs) ≡ []
from_end [] zero past = refl
from_end [] (suc i) past = refl
from_end (r ∷ rs) zero past = absurd (omega arith)
from_end (r ∷ rs) (suc i) past = from_end rs i (omega arith)

-- the runs from run i on
pub runs_from : (from : ℕ) (rs : List Run) (i : ℕ) (d : Run) → AreRunsFrom from rs → i < length rs → AreRunsFrom (get_or rs i d).first (drop i rs)
runs_from from [] i d h inside = absurd (omega arith)
runs_from from (r ∷ rs) zero d h inside = (omega arith, h.1, h.2, h.3)
runs_from from (r ∷ rs) (suc i) d h inside = runs_from (r.last + 2) rs i d h.3 (omega arith)

pub run_size : (r : Run) → length (numbers_of_run r) ≡ r.last + 1 - r.first
run_size r = length-range_with_len r.first (r.last + 1 - r.first)

-- the numbers of a range that are below k
pub range_below : (a n k : ℕ) → count_below (range_with_len a n) k ≡ min n (k - a)
range_below a zero k = omega arith
range_below a (suc n) k = let rest = range_below (a + 1) n k in elim (cases_lt a k) [
  | inl low ↦ (let e = counts_first a (range_with_len (a + 1) n) k low in omega arith)
  | inr high ↦ (let e = skips_first a (range_with_len (a + 1) n) k high in omega arith)
]

-- numbers were counted up to run i, of which `rest` are left
pub record CountedTo (rs : List Run) (i count rest whole : ℕ) : Type 0 where
  pub within : i ≤ length rs
  pub sum : count + rest ≡ whole

pub few_in_runs : (rs : List Run) → AreRuns rs → length (run_numbers rs) ≤ 65536
few_in_runs rs h = let few = few_numbers 0 65536 (run_numbers rs) (omega arith) (ascends_runs 0 rs h) in omega arith

pub counted_run : (rs : List Run) (i : ℕ) (d : Run) → AreRuns rs → i < length rs → length (run_numbers (drop i rs)) ≡ ((get_or rs i d).last + 1 - (get_or rs i d).first) + length (run_numbers (drop (i + 1) rs))
counted_run rs i d h inside = ap length (from_run rs i d inside) ∙ length-append (numbers_of_run (get_or rs i d)) (run_numbers (drop (i + 1) rs)) ∙ ap (λ n. n + length (run_numbers (drop (i + 1) rs))) (run_size (get_or rs i d))

pub below_run : (rs : List Run) (i k : ℕ) (d : Run) → AreRuns rs → i < length rs → (get_or rs i d).first < k → count_below (run_numbers (drop i rs)) k ≡ (min ((get_or rs i d).last + 1) k - (get_or rs i d).first) + count_below (run_numbers (drop (i + 1) rs)) k
below_run rs i k d h inside low =
    let r = get_or rs i d in
    let ordered = (run_ordered 0 rs i d h inside).0 in
    let parts = ap (λ l. count_below l k) (from_run rs i d inside) ∙ below_append (numbers_of_run r) (run_numbers (drop (i + 1) rs)) k in
    let here = range_below r.first (r.last + 1 - r.first) k in
    omega arith

pub below_none : (rs : List Run) (i k : ℕ) (d : Run) → AreRuns rs → i < length rs → k ≤ (get_or rs i d).first → count_below (run_numbers (drop i rs)) k ≡ 0
below_none rs i k d h inside high = none_below (get_or rs i d).first 65536 (run_numbers (drop i rs)) k (ascends_runs (get_or rs i d).first (drop i rs) (runs_from 0 rs i d h inside)) high

-- an item of two lists, one after the other
item_front : (xs ys : List ℕ) (k : ℕ) → k < length xs → slice_get (xs ++ ys) k ≡ slice_get xs k
item_front [] ys k low = absurd (omega arith)
item_front (x ∷ xs) ys zero low = refl
item_front (x ∷ xs) ys (suc k) low = item_front xs ys k (omega arith)

item_back : (xs ys : List ℕ) (k n : ℕ) → k ≡ length xs + n → slice_get (xs ++ ys) k ≡ slice_get ys n
item_back [] ys k n at = ap (slice_get ys) (omega arith)
item_back (x ∷ xs) ys zero n at = absurd (omega arith)
item_back (x ∷ xs) ys (suc k) n at = item_back xs ys k n (omega arith)

range_item : (a n k m : ℕ) → k < n → m ≡ a + k → slice_get (range_with_len a n) k ≡ Some m
range_item a zero k m low at = absurd (omega arith)
range_item a (suc n) zero m low at = ap Some (omega arith)
range_item a (suc n) (suc k) m low at = range_item (a + 1) n k m (omega arith) (omega arith)

pub nth_here : (rs : List Run) (i k m : ℕ) (d : Run) → i < length rs → k < (get_or rs i d).last + 1 - (get_or rs i d).first → m ≡ (get_or rs i d).first + k → Some m ≡ slice_get (run_numbers (drop i rs)) k
nth_here rs i k m d inside low at =
    let r = get_or rs i d in
    let size = run_size r in
    sym (ap (λ l. slice_get l k) (from_run rs i d inside) ∙ item_front (numbers_of_run r) (run_numbers (drop (i + 1) rs)) k (omega arith) ∙ range_item r.first (r.last + 1 - r.first) k m low at)

pub nth_later : (rs : List Run) (i k n : ℕ) (d : Run) → i < length rs → k ≡ ((get_or rs i d).last + 1 - (get_or rs i d).first) + n → slice_get (run_numbers (drop (i + 1) rs)) n ≡ slice_get (run_numbers (drop i rs)) k
nth_later rs i k n d inside at =
    let r = get_or rs i d in
    let size = run_size r in
    sym (ap (λ l. slice_get l k) (from_run rs i d inside) ∙ item_back (numbers_of_run r) (run_numbers (drop (i + 1) rs)) k n (omega arith))

pub nth_end : (rs : List Run) (i k : ℕ) → length rs ≤ i → None ≡ slice_get (run_numbers (drop i rs)) k
nth_end rs i k past = sym (ap (λ l. slice_get l k) (from_end rs i past) ∙ empty k)
  where
    empty : (n : ℕ) → slice_get {X = ℕ} [] n ≡ None
    empty zero = refl
    empty (suc n) = refl

-- no run of runs in order ends before it begins
pub all_ordered : (rs : List Run) → AreRuns rs → All (λ r. r.first ≤ r.last) rs
all_ordered rs h k d inside = (run_ordered 0 rs k d h inside).0

pub ascends_all : (rs : List Run) → AreRuns rs → Ascends (run_numbers rs)
ascends_all rs h = ascends_runs 0 rs h

-- one run
pub one_is_run : (rs : List Run) (first last : ℕ) → rs ≡ record { first = first; last = last } ∷ [] → first ≤ last → last < 65536 → AreRuns rs
one_is_run rs first last is ordered most = subst AreRuns (sym is) (omega arith, ordered, most, tt)

pub numbers_of_one : (r : Run) → run_numbers (r ∷ []) ≡ numbers_of_run r
numbers_of_one r = append-nil (numbers_of_run r)

pub one_has : (rs : List Run) (first last : ℕ) → rs ≡ record { first = first; last = last } ∷ [] → run_numbers rs ≡ range_with_len first (last + 1 - first)
one_has rs first last is = ap run_numbers is ∙ numbers_of_one (record { first = first; last = last })

-- two runs are two numbers apart, so there are few
pub few_runs : (from : ℕ) (rs : List Run) → from ≤ 65537 → AreRunsFrom from rs → from + 2 * length rs ≤ 65537
few_runs from [] low h = omega arith
few_runs from (r ∷ rs) low h =
    let first : from ≤ r.first = h.0 in
    let ordered : r.first ≤ r.last = h.1 in
    let most : r.last < 65536 = h.2 in
    let rest = few_runs (r.last + 2) rs (omega arith) h.3 in
    omega arith
